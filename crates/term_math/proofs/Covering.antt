-- Whether each number of an interval is in a set, number by number.
use Rattle.std.proofs.Common.{◌≡◌, ℕ, zero, suc, ◌+◌, ◌<◌, ◌||◌, get_or, ℤ, pos, negsuc, ◌+ℤ◌, ◌≤ℤ◌, ◌<ℤ◌, Bool, true, false, List, [], ◌∷◌, length, arith, refl, ap, ◌∙◌}
use Rattle.std.specs.Int.{int_gap}
use Rattle.std.specs.List.{list_all, list_any}
use Rattle.std.specs.Ordering.{int_eq}
use Rattle.std.proofs.lemmas.Int.{ints}
use Rattle.std.proofs.lemmas.Bool.{and_left}
use Rattle.sopl_base.proofs.Booleans.{and_true}
use Rattle.box_problem.proofs.Counts.{gap_leads}
use Rattle.term_language.specs.Arrays.{counted_up, is_covered}
use Rattle.term_language.specs.Ends.{ends}

-- each of so many numbers from one on is in a set
abbrev all_in : List ℤ → ℤ → ℕ → Bool
all_in set z n = list_all (λ number. list_any (int_eq number) set) (counted_up z n)

counted_more : (n : ℕ) → n + 1 ≡ suc n
counted_more n = omega arith

gap_shorter : (number high : ℤ) → number <ℤ high → int_gap number high + 1 ≡ suc (int_gap (number +ℤ pos 1) high + 1)
gap_shorter number high below =
    omega (arith, ints, gap_leads number high (omega (arith, ints, below)), gap_leads (number +ℤ pos 1) high (omega (arith, ints, below)))

gap_over : (number high : ℤ) → high ≤ℤ number → int_gap number high ≡ 0
gap_over (pos a) (pos b) past = omega (arith, ints, past)
gap_over (pos a) (negsuc b) past = refl
gap_over (negsuc a) (pos b) past = absurd (omega (arith, ints, past))
gap_over (negsuc a) (negsuc b) past = omega (arith, ints, past)

pub next_covered : (number high : ℤ) (set : List ℤ) → list_any (int_eq number) set ≡ true → number <ℤ high → is_covered (ends number high) set ≡ is_covered (ends (number +ℤ pos 1) high) set
next_covered number high set there below =
    ap (all_in set number) (gap_shorter number high below)
    ∙ and_true (list_any (int_eq number) set) (all_in set (number +ℤ pos 1) (int_gap (number +ℤ pos 1) high + 1)) there

pub not_covered : (number high : ℤ) (set : List ℤ) → list_any (int_eq number) set ≡ false → is_covered (ends number high) set ≡ false
not_covered number high set missing =
    ap (all_in set number) (counted_more (int_gap number high))
    ∙ and_left (list_any (int_eq number) set) (all_in set (number +ℤ pos 1) (int_gap number high)) missing

pub last_covered : (number high : ℤ) (set : List ℤ) → list_any (int_eq number) set ≡ true → high ≤ℤ number → is_covered (ends number high) set ≡ true
last_covered number high set there past =
    ap (λ (n : ℕ). all_in set number (n + 1)) (gap_over number high past)
    ∙ and_true (list_any (int_eq number) set) true there

-- a number that stands at a place of a set
pub number_there : (number : ℤ) (set : List ℤ) (place : ℕ) (here : ℤ) → place < length set → here ≡ get_or set place here → int_eq here number ≡ true → list_any (int_eq number) set ≡ true
number_there number [] place here there at same = absurd (omega (arith, there))
number_there number (z ∷ set) zero here there at same = or_here (int_eq number z) (list_any (int_eq number) set) (flipped here z number at same)
  where
    or_here : (a b : Bool) → a ≡ true → (a || b) ≡ true
    or_here true b p = refl
    or_here false b p = absurd (cc)

    flipped : (here z number : ℤ) → here ≡ z → int_eq here number ≡ true → int_eq number z ≡ true
    flipped here z number is same = grind (arith, ints)
number_there number (z ∷ set) (suc place) here there at same = or_later (int_eq number z) (list_any (int_eq number) set) (number_there number set place here (omega (arith, there)) at same)
  where
    or_later : (a b : Bool) → b ≡ true → (a || b) ≡ true
    or_later true b p = refl
    or_later false b p = p
