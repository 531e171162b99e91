-- How many intervals lie between two numbers, and what it is to be crowded.
use Rattle.std.proofs.Common.{◌≡◌, ℕ, suc, ◌+◌, ◌<◌, ◌≤◌, nat_lt, ℤ, ◌≤ℤ◌, int_le, Bool, true, false, if◌then◌else◌, List, [], ◌∷◌, length, arith, refl, ap}
use Rattle.std.specs.List.{filter}
use Rattle.std.specs.Int.{int_gap}
use Rattle.std.proofs.lemmas.Int.{ints}
use Rattle.std.proofs.lemmas.Bool.Decides.{nat_tests}
use Rattle.std.proofs.lemmas.Bool.{and_from, and_right}
use Rattle.sopl_base.proofs.Tests.{le_test, le_tested, nat_test, nat_tested, nat_untest}
use Rattle.box_problem.proofs.Counts.{gap_leads}
use Rattle.term_language.specs.Ends.{Ends}
use Rattle.term_language.specs.Globals.{is_inside, are_crowded}
use Rattle.term_language.proofs.FormValues.{by_bool, and_first, and_second}
use Rattle.term_crowds.specs.Crowds.{inside_count, IsTight}

pub nat_untested : (m n : ℕ) → nat_lt m n ≡ false → n ≤ m
nat_untested m n is = grind (arith, nat_tests)

-- how many lie between two numbers
pub count_in : (a b : ℤ) (e : Ends) (es : List Ends) → is_inside a b e ≡ true → inside_count a b (e ∷ es) ≡ suc (inside_count a b es)
count_in a b e es inside = ap (λ (t : Bool). length (if t then e ∷ filter (is_inside a b) es else filter (is_inside a b) es)) inside

pub count_out : (a b : ℤ) (e : Ends) (es : List Ends) → is_inside a b e ≡ false → inside_count a b (e ∷ es) ≡ inside_count a b es
count_out a b e es out = ap (λ (t : Bool). length (if t then e ∷ filter (is_inside a b) es else filter (is_inside a b) es)) out

pub count_any : (a b : ℤ) (e : Ends) (es : List Ends) → inside_count a b es ≤ inside_count a b (e ∷ es)
count_any a b e es =
    by_bool (λ t. inside_count a b es ≤ length (if t then e ∷ filter (is_inside a b) es else filter (is_inside a b) es)) (is_inside a b e)
    (λ inside. omega arith) (λ out. omega arith)

pub count_most : (a b : ℤ) (es : List Ends) → inside_count a b es ≤ length es
count_most a b [] = omega arith
count_most a b (e ∷ es) =
    by_bool (λ t. length (if t then e ∷ filter (is_inside a b) es else filter (is_inside a b) es) ≤ length (e ∷ es)) (is_inside a b e)
    (λ inside. omega (arith, count_most a b es)) (λ out. omega (arith, count_most a b es))

inside_wider : (a b c d : ℤ) (e : Ends) → c ≤ℤ a → b ≤ℤ d → is_inside a b e ≡ true → is_inside c d e ≡ true
inside_wider a b c d e low high inside =
    let from = le_tested a e.low (and_first (int_le a e.low) (int_le e.high b) inside) in
    let to = le_tested e.high b (and_second (int_le a e.low) (int_le e.high b) inside) in
    and_from (int_le c e.low) (int_le e.high d) (le_test c e.low (omega (arith, ints))) (le_test e.high d (omega (arith, ints)))

-- more lie between wider numbers
pub count_wider : (a b c d : ℤ) (es : List Ends) → c ≤ℤ a → b ≤ℤ d → inside_count a b es ≤ inside_count c d es
count_wider a b c d [] low high = omega arith
count_wider a b c d (e ∷ es) low high =
    let rest = count_wider a b c d es low high in
    by_bool (λ t. is_inside a b e ≡ t → inside_count a b (e ∷ es) ≤ inside_count c d (e ∷ es)) (is_inside a b e)
    (λ met is. omega (arith, rest, count_in a b e es is, count_in c d e es (inside_wider a b c d e low high is)))
    (λ unmet is. omega (arith, rest, count_out a b e es is, count_any c d e es))
    refl

-- what crowded means, both ways
pub crowded_tested : (a b : ℤ) (es : List Ends) → are_crowded es a b ≡ true → (a ≤ℤ b) × (int_gap a b + 1 < inside_count a b es)
crowded_tested a b es full = (
  le_tested a b (and_first (int_le a b) (nat_lt (int_gap a b + 1) (inside_count a b es)) full),
  nat_tested (int_gap a b + 1) (inside_count a b es) (and_second (int_le a b) (nat_lt (int_gap a b + 1) (inside_count a b es)) full),
)

pub crowded_test : (a b : ℤ) (es : List Ends) → a ≤ℤ b → int_gap a b + 1 < inside_count a b es → are_crowded es a b ≡ true
crowded_test a b es order more =
    and_from (int_le a b) (nat_lt (int_gap a b + 1) (inside_count a b es)) (le_test a b order) (nat_test (int_gap a b + 1) (inside_count a b es) more)

pub uncrowded_test : (a b : ℤ) (es : List Ends) → inside_count a b es ≤ int_gap a b + 1 → are_crowded es a b ≡ false
uncrowded_test a b es few = and_right (int_le a b) (nat_lt (int_gap a b + 1) (inside_count a b es)) (nat_untest (int_gap a b + 1) (inside_count a b es) few)

-- a tight window by the gap between its ends, both ways
pub tight_full : (es : List Ends) (a b : ℤ) → IsTight es a b → int_gap a b + 1 ≤ inside_count a b es
tight_full es a b tight = omega (arith, ints, gap_leads a b tight.ordered, tight.full)

pub is_tight : (es : List Ends) (a b : ℤ) → a ≤ℤ b → int_gap a b + 1 ≤ inside_count a b es → IsTight es a b
is_tight es a b order full = record { ordered = order; full = omega (arith, ints, gap_leads a b order, full) }
