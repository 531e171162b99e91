-- Numbers of decimal digits.
use Rattle.std.proofs.Common.{◌≡◌, ◌∙◌, ◌<◌, ◌^◌, ℕ, List, [], ◌∷◌, length, true, Some, None, Result, Ok, Err, refl, sym, ap, subst, arith, rules, lt-ltb, if◌then◌else◌}
use Rattle.std.specs.Char.{is_ascii_digit}
use Rattle.std.specs.List.{list_all}
use Rattle.std.specs.Result.{OkIff}
use Rattle.std.specs.Str.{IsUtf8}
use Rattle.std.specs.Str.Parse.{ParsesUnsigned}
use Rattle.std.proofs.lemmas.Str.Parse.{IsNumeralModel, numerals_by_fold, parse_digits}
use Rattle.std.proofs.lemmas.Fmt.{IsAscii-from_digits}
use Rattle.std.proofs.lemmas.Str.{IsUtf8-from_ascii}
use Rattle.log_tree.specs.Numbers.{worth_of, below, sized, size_in_word}

pub own : IsNumeralModel (λ ds. list_all is_ascii_digit ds ≡ true) (worth_of 0)
own = numerals_by_fold _ (search rules) worth_of (search rules)

whole : (word : List ℕ) → list_all is_ascii_digit word ≡ true → size_in_word word ≡ sized word
whole word digits = ap (λ b. if b then sized word else None) digits

-- digits are a text
pub no_text : (word : List ℕ) → list_all is_ascii_digit word ≡ true → ¬ (IsUtf8 word) → None ≡ size_in_word word
no_text word digits isnt = absurd (isnt (IsUtf8-from_ascii word (IsAscii-from_digits word (own.to word digits))))

module _ {E : Type 0} (word : List ℕ) (r : Result ℕ E) (text : List ℕ) (is : text ≡ word) (parsed : ParsesUnsigned 128 10 text r) (digits : list_all is_ascii_digit word ≡ true) where
  told : OkIff r ((0 < length word) × (worth_of 0 word < 2 ^ 128)) (worth_of 0 word)
  told = parse_digits own 128 word r (subst (λ w. ParsesUnsigned 128 10 w r) is parsed) digits

  pub size_read : (n : ℕ) → r ≡ Ok n → Some n ≡ size_in_word word
  size_read n ok =
      let known : ((0 < length word) × (worth_of 0 word < 2 ^ 128)) × (n ≡ worth_of 0 word) =
      subst (λ (o : Result ℕ E). OkIff o ((0 < length word) × (worth_of 0 word < 2 ^ 128)) (worth_of 0 word)) ok told in
      sym (whole word digits ∙ by_word word known.0.0 known.0.1 ∙ ap Some (sym known.1))
    where
      by_word : (w : List ℕ) → 0 < length w → worth_of 0 w < 2 ^ 128 → sized w ≡ Some (worth_of 0 w)
      by_word [] some small = absurd (omega (arith, some))
      by_word (c ∷ w) some small = ap (λ b. if b then Some (worth_of 0 (c ∷ w)) else None) (lt-ltb (worth_of 0 (c ∷ w)) (2 ^ 128) small)

  pub size_refused : (e : E) → r ≡ Err e → None ≡ size_in_word word
  size_refused e err =
      let known : ¬ ((0 < length word) × (worth_of 0 word < 2 ^ 128)) =
      subst (λ (o : Result ℕ E). OkIff o ((0 < length word) × (worth_of 0 word < 2 ^ 128)) (worth_of 0 word)) err told in
      sym (whole word digits ∙ by_word word known)
    where
      large : (n : ℕ) → ¬ (n < 2 ^ 128) → below (2 ^ 128) n ≡ None
      large n out = grind (arith)

      by_word : (w : List ℕ) → ¬ ((0 < length w) × (worth_of 0 w < 2 ^ 128)) → sized w ≡ None
      by_word [] out = refl
      by_word (c ∷ w) out = large (worth_of 0 (c ∷ w)) (λ small. out (omega arith, small))
