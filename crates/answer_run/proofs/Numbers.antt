-- Numbers of decimal digits.
use Rattle.std.proofs.Common.{◌≡◌, ◌∙◌, ◌<◌, ◌≤◌, ◌*◌, ◌+◌, ◌-◌, ℕ, List, [], ◌∷◌, length, Bool, true, ◌&&◌, fold, nat_le, None, Result, Ok, Err, sym, ap, subst, arith}
use Rattle.std.proofs.Common.{rules, le-leb, if◌then◌else◌}
use Rattle.std.proofs.lemmas.Bool.{and_parts}
use Rattle.std.specs.Char.{is_ascii_digit}
use Rattle.std.specs.List.{list_all}
use Rattle.std.specs.Result.{OkIff}
use Rattle.std.specs.Str.Parse.{ParsesUnsigned}
use Rattle.std.proofs.lemmas.Str.Parse.{IsNumeralModel, numerals_by_fold, parse_digits}
use Rattle.sopl_ast.specs.Pieces.{decimal}
use Rattle.answer_run.specs.Words.{is_digits, in_range, number_of}

abbrev read_on : ℕ → List ℕ → ℕ
read_on n digits = fold (λ value digit. 10 * value + (digit - 48)) n digits

own : IsNumeralModel (λ ds. list_all is_ascii_digit ds ≡ true) (read_on 0)
own = numerals_by_fold _ (search rules) read_on (search rules)

pub few_digits : (word : List ℕ) (b : Bool) → 1 ≤ length word → length word ≤ 10 → b ≡ list_all is_ascii_digit word → b ≡ is_digits word
few_digits word b some few is =
    is ∙ ap (λ c. c && list_all is_ascii_digit word) (sym (ap (λ c. c && nat_le (length word) 10) (le-leb 1 (length word) some) ∙ le-leb (length word) 10 few))

all_of : (word : List ℕ) → is_digits word ≡ true → list_all is_ascii_digit word ≡ true
all_of word is = (and_parts _ _ is).1

some_of : (word : List ℕ) → is_digits word ≡ true → 0 < length word
some_of [] is = absurd (cc)
some_of (first ∷ later) is = omega arith

module _ {E : Type 0} (least most : ℕ) (word : List ℕ) (r : Result ℕ E) (parsed : ParsesUnsigned 32 10 word r) (digits : is_digits word ≡ true) where
  told : OkIff r ((0 < length word) × (decimal word < 4294967296)) (decimal word)
  told = parse_digits own 32 word r parsed (all_of word digits)

  whole : number_of least most word ≡ in_range least most (decimal word)
  whole = ap (λ b. if b then in_range least most (decimal word) else None) digits

  -- a number that is read
  pub number_read : (n : ℕ) → r ≡ Ok n → in_range least most n ≡ number_of least most word
  number_read n ok =
      let is : ((0 < length word) × (decimal word < 4294967296)) × (n ≡ decimal word) =
      subst (λ (o : Result ℕ E). OkIff o ((0 < length word) × (decimal word < 4294967296)) (decimal word)) ok told in
      ap (in_range least most) is.1 ∙ sym whole

  -- a number that is too large
  pub number_refused : (e : E) → most < 4294967296 → r ≡ Err e → None ≡ number_of least most word
  number_refused e fits err =
      let is : ¬ ((0 < length word) × (decimal word < 4294967296)) =
      subst (λ (o : Result ℕ E). OkIff o ((0 < length word) × (decimal word < 4294967296)) (decimal word)) err told in
      sym (whole ∙ large (decimal word) (λ below. is (some_of word digits, below)))
    where
      large : (n : ℕ) → ¬ (n < 4294967296) → in_range least most n ≡ None
      large n out = grind (arith)
