-- Words without a space, and what stands behind them.
use Rattle.std.proofs.Common.{◌≡◌, ◌∙◌, ◌<◌, ◌≤◌, ◌^◌, ℕ, suc, ℤ, pos, negsuc, neg_ℤ, List, [], ◌∷◌, ◌++◌, length, true, false, ◌==◌, if◌then◌else◌, Some, None, refl, ap, arith, lt-ltb, le-leb}
use Rattle.std.specs.Prelude.{decimal, FitsSigned}
use Rattle.std.specs.Char.{is_ascii_digit}
use Rattle.std.specs.Fmt.{signed_decimal}
use Rattle.std.specs.Int.{w64, w128}
use Rattle.std.specs.List.{list_all}
use Rattle.std.specs.Option.{option_and_then}
use Rattle.std.proofs.lemmas.Bool.{and_parts}
use Rattle.std.proofs.lemmas.Int.{ints}
use Rattle.std.proofs.lemmas.Fmt.{decimal_is_IsNumeral_wide}
use Rattle.log_tree.specs.Words.{word_of, rest_of, letter_of}
use Rattle.log_tree.specs.Numbers.{worth_of, below, sized, size_in_word, positive_within, negative_within, wide_in_word, within_64, signed_in_word}
use Rattle.log_tree.specs.Reading.{small_at, node_number_at}
use Rattle.log_tree.proofs.Sizes.{own}

-- no byte is a space
abbrev pub Solid : List ℕ → Type 0
Solid [] = Unit {0}
Solid (b ∷ bs) = ((b == 32) ≡ false) × Solid bs

-- what may stand behind a word: nothing, or a space and more
pub data Behind : List ℕ → List ℕ → Type 0 where
  none : Behind [] []
  space : (more : List ℕ) → Behind (32 ∷ more) more

pub word_is : (w t more : List ℕ) → Solid w → Behind t more → word_of (w ++ t) ≡ w
word_is [] _ _ solid none = refl
word_is [] _ _ solid (space more) = refl
word_is (b ∷ bs) t more solid behind = ap (λ c. if c then [] else b ∷ word_of (bs ++ t)) solid.0 ∙ ap (λ ws. b ∷ ws) (word_is bs t more solid.1 behind)

pub rest_is : (w t more : List ℕ) → Solid w → Behind t more → rest_of (w ++ t) ≡ more
rest_is [] _ _ solid none = refl
rest_is [] _ _ solid (space more) = refl
rest_is (b ∷ bs) t more solid behind = ap (λ c. if c then bs ++ t else rest_of (bs ++ t)) solid.0 ∙ rest_is bs t more solid.1 behind

-- digits have no space
digit_solid : (b : ℕ) → is_ascii_digit b ≡ true → (b == 32) ≡ false
digit_solid b is = grind (arith, is)

digits_solid : (ds : List ℕ) → list_all is_ascii_digit ds ≡ true → Solid ds
digits_solid [] all = tt
digits_solid (d ∷ ds) all = let parts = and_parts _ _ all in (digit_solid d parts.0, digits_solid ds parts.1)

pub all_digits : (n : ℕ) → n < 10 ^ 64 → list_all is_ascii_digit (decimal n) ≡ true
all_digits n small = own.from (decimal n) (decimal_is_IsNumeral_wide n small).0.1

pub decimal_solid : (n : ℕ) → n < 10 ^ 64 → Solid (decimal n)
decimal_solid n small = digits_solid (decimal n) (all_digits n small)

-- the digits of a number are worth that number
pub size_is : (n : ℕ) → n < 2 ^ 128 → size_in_word (decimal n) ≡ Some n
size_is n small = ap (λ b. if b then sized (decimal n) else None) (all_digits n wide) ∙ by_word (decimal n) (decimal_is_IsNumeral_wide n wide).0.0 is
  where
    wide : n < 10 ^ 64
    wide = omega (arith, small)

    is : worth_of 0 (decimal n) ≡ n
    is = own.same (decimal n) (decimal_is_IsNumeral_wide n wide).0.1 ∙ (decimal_is_IsNumeral_wide n wide).1

    by_word : (w : List ℕ) → 0 < length w → worth_of 0 w ≡ n → sized w ≡ Some n
    by_word [] some same = absurd (omega (arith, some))
    by_word (c ∷ w) some same = ap (below (2 ^ 128)) same ∙ ap (λ b. if b then Some n else None) (lt-ltb n (2 ^ 128) small)

pub small_is : (n : ℕ) (t more : List ℕ) → n < 2 ^ 32 → Behind t more → small_at (decimal n ++ t) ≡ Some n
small_is n t more small behind =
    ap (λ w. option_and_then (below (2 ^ 32)) (size_in_word w)) (word_is (decimal n) t more (decimal_solid n (omega (arith, small))) behind)
    ∙ ap (option_and_then (below (2 ^ 32))) (size_is n (omega (arith, small)))
    ∙ ap (λ b. if b then Some n else None) (lt-ltb n (2 ^ 32) small)

pub node_is : (n : ℕ) (t more : List ℕ) → n < 2 ^ 64 → Behind t more → node_number_at (decimal n ++ t) ≡ Some n
node_is n t more small behind =
    ap (λ w. option_and_then (below (2 ^ 64)) (size_in_word w)) (word_is (decimal n) t more (decimal_solid n (omega (arith, small))) behind)
    ∙ ap (option_and_then (below (2 ^ 64))) (size_is n (omega (arith, small)))
    ∙ ap (λ b. if b then Some n else None) (lt-ltb n (2 ^ 64) small)

-- numbers with a sign
pub signed_solid : (k : ℤ) → FitsSigned w128 k → Solid (signed_decimal k)
signed_solid (pos n) fits = decimal_solid n (omega (arith, fits))
signed_solid (negsuc n) fits = (refl, decimal_solid (suc n) (omega (arith, fits)))

pub wide_is : (k : ℤ) → FitsSigned w128 k → wide_in_word (signed_decimal k) ≡ Some k
wide_is (pos n) fits = by_word (decimal n) (all_digits n (omega (arith, fits))) (size_is n (omega (arith, fits)))
  where
    by_word : (w : List ℕ) → list_all is_ascii_digit w ≡ true → size_in_word w ≡ Some n → wide_in_word w ≡ Some (pos n)
    by_word [] all is = ap (option_and_then (positive_within (2 ^ 127))) is ∙ ap (λ b. if b then Some (pos n) else None) (lt-ltb n (2 ^ 127) (omega (arith, fits)))
    by_word (b ∷ bs) all is =
        ap (λ c. if c then option_and_then (negative_within (2 ^ 127)) (size_in_word bs) else option_and_then (positive_within (2 ^ 127)) (size_in_word (b ∷ bs))) (no_sign b (and_parts _ _ all).0)
        ∙ ap (option_and_then (positive_within (2 ^ 127))) is ∙ ap (λ b. if b then Some (pos n) else None) (lt-ltb n (2 ^ 127) (omega (arith, fits)))
      where
        no_sign : (b : ℕ) → is_ascii_digit b ≡ true → (b == 45) ≡ false
        no_sign b is = grind (arith, is)
wide_is (negsuc n) fits =
    ap (option_and_then (negative_within (2 ^ 127))) (size_is (suc n) (omega (arith, fits)))
    ∙ ap (λ b. if b then Some (neg_ℤ (pos (suc n))) else None) (le-leb (suc n) (2 ^ 127) (omega (arith, fits)))

narrow_is : (k : ℤ) → FitsSigned w64 k → within_64 k ≡ Some k
narrow_is k fits = grind (arith, ints, fits)

pub signed_is : (k : ℤ) → FitsSigned w64 k → signed_in_word (signed_decimal k) ≡ Some k
signed_is k fits = ap (option_and_then within_64) (wide_is k (omega (arith, fits))) ∙ narrow_is k fits

-- a number in digits begins with no letter
pub no_letter : (letter n : ℕ) (t : List ℕ) → 58 ≤ letter → n < 2 ^ 128 → (letter_of (decimal n ++ t) == letter) ≡ false
no_letter letter n t late small = by_word (decimal n) (all_digits n (omega (arith, small))) (decimal_is_IsNumeral_wide n (omega (arith, small))).0.0
  where
    digit : (b : ℕ) → is_ascii_digit b ≡ true → (b == letter) ≡ false
    digit b is = grind (arith, is, late)

    by_word : (w : List ℕ) → list_all is_ascii_digit w ≡ true → 0 < length w → (letter_of (w ++ t) == letter) ≡ false
    by_word [] all some = absurd (omega (arith, some))
    by_word (b ∷ bs) all some = digit b (and_parts _ _ all).0
