-- Weights of scenarios and sizes of terms, step by step from the last scenario to the first.
use Rattle.std.proofs.Common.{◌≡◌, ℕ, ◌+◌, ◌-◌, ◌*◌, ◌<◌, ◌≤◌, ◌^◌, zero, suc, max, ℤ, pos, negsuc, ◌+ℤ◌, ◌*ℤ◌, ◌≤ℤ◌, ◌<ℤ◌, unsigned_abs, List, [], ◌∷◌, length, get_or, drop}
use Rattle.std.proofs.Common.{arith, refl, ap, sym, ◌∙◌}
use Rattle.std.specs.Int.{w128, saturate_signed}
use Rattle.std.specs.Int.RustNames.{FitsSigned}
use Rattle.std.specs.List.{AllByRecursion}
use Rattle.std.proofs.lemmas.Int.{ints, fits_signed_from_abs}
use Rattle.std.proofs.lemmas.List.{at_drop_more, at_drop_all, get_or_default}
use Rattle.box_problem.specs.Box.{Box}
use Rattle.term_language.specs.Globals.{total}
use Rattle.term_language.specs.Sizes.{size}
use Rattle.term_language.specs.Terms.{Term}
use Rattle.term_problem.specs.Objective.{greatest_size}
use Rattle.sopl_base.proofs.Sizes.{plus_size}
use Rattle.term_nodes.specs.declared.items.Item.{Item}
use Rattle.term_nodes.specs.Built.{IsBuilt}
use Rattle.term_nodes.specs.Things.{Thing, term_at, things}
use Rattle.term_nodes.proofs.Ready.{small_term}
use Rattle.term_goals.specs.Goals.{AreWeights, goal_size, terms_of}

-- the weight of all scenarios, as a sum of sizes
abbrev pub sum_of : List ℤ → ℕ
sum_of [] = 0
sum_of (w ∷ ws) = unsigned_abs w + sum_of ws

positive_size : (z : ℤ) → pos 1 ≤ℤ z → z ≡ pos (unsigned_abs z)
positive_size (pos n) least = refl
positive_size (negsuc n) least = let empty : ⊥ = omega (arith, ints, least) in elim empty [ ]

total_is : (ws : List ℤ) → AllByRecursion (λ w. pos 1 ≤ℤ w) ws → total ws ≡ pos (sum_of ws)
total_is [] each = refl
total_is (w ∷ ws) each = omega (arith, ints, positive_size w each.0, total_is ws each.1)

pub sum_most : (ws : List ℤ) → AreWeights ws → sum_of ws ≤ 2 ^ 100
sum_most ws are = omega (arith, ints, total_is ws are.each, are.most)

drop_each : (i : ℕ) (ws : List ℤ) → AllByRecursion (λ w. pos 1 ≤ℤ w) ws → AllByRecursion (λ w. pos 1 ≤ℤ w) (drop i ws)
drop_each zero ws each = each
drop_each (suc i) [] each = tt
drop_each (suc i) (w ∷ ws) each = drop_each i ws each.1

pub sum_drop : (i : ℕ) (ws : List ℤ) → sum_of (drop i ws) ≤ sum_of ws
sum_drop zero ws = omega arith
sum_drop (suc i) [] = omega arith
sum_drop (suc i) (w ∷ ws) = omega (arith, sum_drop i ws)

pub next_total : (ws : List ℤ) (i : ℕ) (w : ℤ) → i < length ws → w ≡ get_or ws i w → total (drop i ws) ≡ w +ℤ total (drop (i + 1) ws)
next_total ws i w below at =
    at_drop_more total ws i w below ∙ ap (λ (v : ℤ). v +ℤ total (drop (i + 1) ws)) (sym at)

pub no_total : (ws : List ℤ) (i : ℕ) → length ws ≤ i → total (drop i ws) ≡ pos 0
no_total ws i past = at_drop_all total ws i past

next_sum : (ws : List ℤ) (i : ℕ) (w : ℤ) → i < length ws → w ≡ get_or ws i w → sum_of (drop i ws) ≡ unsigned_abs w + sum_of (drop (i + 1) ws)
next_sum ws i w below at =
    at_drop_more sum_of ws i w below ∙ ap (λ (v : ℤ). unsigned_abs v + sum_of (drop (i + 1) ws)) (sym at)

-- there is room for each step of the sum
pub total_room : (ws : List ℤ) (i : ℕ) (w sum : ℤ) → AreWeights ws → i < length ws → w ≡ get_or ws i w → sum ≡ total (drop (i + 1) ws) → unsigned_abs w + unsigned_abs sum < 2 ^ 127
total_room ws i w sum are below at is =
    let later : unsigned_abs sum ≡ sum_of (drop (i + 1) ws) = ap (λ (z : ℤ). unsigned_abs z) (is ∙ total_is (drop (i + 1) ws) (drop_each (i + 1) ws are.each)) in
    omega (arith, later, next_sum ws i w below at, sum_drop i ws, sum_most ws are)

-- sizes
pub next_greatest : (root : Box) (all : List Thing) (ids : List ℕ) (i id : ℕ) → i < length ids → id ≡ get_or ids i id → greatest_size root (terms_of all (drop i ids))
    ≡ max (size root (term_at all id)) (greatest_size root (terms_of all (drop (i + 1) ids)))
next_greatest root all ids i id below at =
    at_drop_more (λ ys. greatest_size root (terms_of all ys)) ids i id below
    ∙ ap (λ (y : ℕ). max (size root (term_at all y)) (greatest_size root (terms_of all (drop (i + 1) ids)))) (sym at)

pub no_greatest : (root : Box) (all : List Thing) (ids : List ℕ) (i : ℕ) → length ids ≤ i → greatest_size root (terms_of all (drop i ids)) ≡ 0
no_greatest root all ids i past = at_drop_all (λ ys. greatest_size root (terms_of all ys)) ids i past

pub greatest_small : (root : Box) (items : List Item) (ids : List ℕ) → IsBuilt root items → greatest_size root (terms_of (things items) ids) ≤ 2 ^ 40
greatest_small root items [] built = omega arith
greatest_small root items (id ∷ ids) built = omega (arith, (small_term root items id built).small, greatest_small root items ids built)

-- the product of both
pos_times : (a b : ℕ) → pos a *ℤ pos b ≡ pos (a * b)
pos_times a b = refl

pub goal_size_is : (root : Box) (ws : List ℤ) (ts : List Term) → AreWeights ws → goal_size root ws ts ≡ pos (sum_of ws * (greatest_size root ts + 1))
goal_size_is root ws ts are =
    ap (λ (z : ℤ). z *ℤ pos (greatest_size root ts + 1)) (total_is ws are.each) ∙ pos_times (sum_of ws) (greatest_size root ts + 1)

one_less : (a b n : ℕ) → a * (b + 1) ≤ n → a * b ≤ n
one_less a b n most = let split : a * (b + 1) ≡ a * b + a = omega arith in omega (arith, most, split)

pub small_sum : (root : Box) (ws : List ℤ) (ts : List Term) → AreWeights ws → goal_size root ws ts ≤ℤ pos (2 ^ 126) → sum_of ws * greatest_size root ts ≤ 2 ^ 126
small_sum root ws ts are most =
    let is = goal_size_is root ws ts are in
    one_less (sum_of ws) (greatest_size root ts) (2 ^ 126) (omega (arith, ints, is, most))

-- a number of 128 bits that is nearest to another passes a number exactly where that one does
pub product_refused : (z : ℤ) → pos (2 ^ 126) <ℤ saturate_signed w128 z → pos (2 ^ 126) <ℤ z
product_refused (pos n) more = omega (arith, ints, more)
product_refused (negsuc n) more = let empty : ⊥ = omega (arith, ints, more) in elim empty [ ]

pub product_passes : (z : ℤ) → saturate_signed w128 z ≤ℤ pos (2 ^ 126) → z ≤ℤ pos (2 ^ 126)
product_passes (pos n) most = omega (arith, ints, most)
product_passes (negsuc n) most = omega (arith, ints)

-- the sum takes one weight more, in a loop that counts down
total_back : (ws : List ℤ) (i : ℕ) (w sum : ℤ) → AreWeights ws → 0 < i → i ≤ length ws → w ≡ get_or ws (i - 1) (pos 0) → sum ≡ total (drop i ws) → unsigned_abs w + unsigned_abs sum < 2 ^ 127
total_back ws i w sum are positive most at is =
    let there : i - 1 < length ws = omega (arith, positive, most) in
    let again : i - 1 + 1 ≡ i = omega (arith, positive) in
    let x : ℤ = get_or ws (i - 1) (pos 0) in
    let room = total_room ws (i - 1) x sum are there (get_or_default ws (i - 1) (pos 0) x there) (is ∙ ap (λ (j : ℕ). total (drop j ws)) (sym again)) in
    omega (arith, room, ap (λ (z : ℤ). unsigned_abs z) at)

pub total_fits : (ws : List ℤ) (i : ℕ) (w sum : ℤ) → AreWeights ws → 0 < i → i ≤ length ws → w ≡ get_or ws (i - 1) (pos 0) → sum ≡ total (drop i ws) → FitsSigned w128 (w +ℤ sum)
total_fits ws i w sum are positive most at is =
    let room = total_back ws i w sum are positive most at is in
    let size = plus_size w sum in
    fits_signed_from_abs w128 (w +ℤ sum) (omega (arith, room, size))
