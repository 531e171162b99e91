-- The weight of the scenarios in which a condition is not False.
use Rattle.std.proofs.Common.{◌≡◌, ◌∙◌, refl, sym, subst, arith, ℕ, ◌+◌, ◌<◌, ◌≤◌, zero, suc, ℤ, pos, negsuc, ◌+ℤ◌, ◌≤ℤ◌, ◌^◌, Bool, true, false, List, [], ◌∷◌, map, length}
use Rattle.std.proofs.Common.{get_or, drop, if◌then◌else◌}
use Rattle.std.proofs.lemmas.Int.{ints, fits_signed_from_abs}
use Rattle.std.proofs.lemmas.List.{at_drop_more, at_drop_all}
use Rattle.std.specs.List.{AllByRecursion}
use Rattle.box_problem.specs.Box.{Box}
use Rattle.term_language.specs.Globals.{total}
use Rattle.term_language.specs.Rules.{Near, truth}
use Rattle.term_language.specs.Terms.{Cond}
use Rattle.term_language.proofs.FormValues.{by_bool}
use Rattle.term_problem.specs.Refuted.{is_false, weight_left}
use Rattle.term_nodes.specs.Things.{Thing, cond_at}
use Rattle.std.specs.Int.{w128}
use Rattle.std.specs.Int.RustNames.{FitsSigned}
use Rattle.term_program.specs.Programs.{kept}

-- weights are positive
abbrev pub Weighs : List ℤ → Type 0
Weighs ws = AllByRecursion (λ w. pos 1 ≤ℤ w) ws

total_up : (ws : List ℤ) → Weighs ws → pos 0 ≤ℤ total ws
total_up [] all = omega (arith, ints)
total_up (w ∷ ws) all = let more = total_up ws all.1 in let one = all.0 in omega (arith, ints, more, one)

-- the weight that is left lies between 0 and that of all
pub left_up : (root b : Box) (ws : List ℤ) (cs : List Cond) → Weighs ws → pos 0 ≤ℤ weight_left root b ws cs
left_up root b [] cs all = omega (arith, ints)
left_up root b (w ∷ ws) [] all = omega (arith, ints)
left_up root b (w ∷ ws) (c ∷ cs) all =
    let more = left_up root b ws cs all.1 in
    let one = all.0 in
    by_bool (λ t. pos 0 ≤ℤ (if t then weight_left root b ws cs else w +ℤ weight_left root b ws cs)) (is_false (truth Near root b c))
    (λ met. more) (λ unmet. omega (arith, ints, more, one))

pub left_down : (root b : Box) (ws : List ℤ) (cs : List Cond) → Weighs ws → weight_left root b ws cs ≤ℤ total ws
left_down root b [] cs all = omega (arith, ints)
left_down root b (w ∷ ws) [] all = total_up (w ∷ ws) all
left_down root b (w ∷ ws) (c ∷ cs) all =
    let more = left_down root b ws cs all.1 in
    let one = all.0 in
    by_bool (λ t. (if t then weight_left root b ws cs else w +ℤ weight_left root b ws cs) ≤ℤ (w +ℤ total ws)) (is_false (truth Near root b c))
    (λ met. omega (arith, ints, more, one)) (λ unmet. omega (arith, ints, more))

pub left_whole : (root b : Box) (ws : List ℤ) (cs : List Cond) (whole : ℤ) → Weighs ws → whole ≡ total ws → weight_left root b ws cs ≤ℤ whole
left_whole root b ws cs whole all is = subst (λ w. weight_left root b ws cs ≤ℤ w) (sym is) (left_down root b ws cs all)

weighs_on : (ws : List ℤ) (i : ℕ) → Weighs ws → Weighs (drop i ws)
weighs_on ws zero all = all
weighs_on [] (suc i) all = tt
weighs_on (w ∷ ws) (suc i) all = weighs_on ws i all.1

total_on : (ws : List ℤ) (i : ℕ) → Weighs ws → total (drop i ws) ≤ℤ total ws
total_on ws zero all = omega (arith, ints)
total_on [] (suc i) all = omega (arith, ints)
total_on (w ∷ ws) (suc i) all = let more = total_on ws i all.1 in let one = all.0 in omega (arith, ints, more, one)

at_weighs : (ws : List ℤ) (i : ℕ) → Weighs ws → i < length ws → pos 1 ≤ℤ get_or ws i (pos 0)
at_weighs [] i all below = absurd (omega (arith, below))
at_weighs (x ∷ xs) zero all below = all.0
at_weighs (x ∷ xs) (suc i) all below = at_weighs xs i all.1 (omega (arith, below))

-- one condition more
pub left_step : (root b : Box) (w : ℤ) (ws : List ℤ) (c : Cond) (cs : List Cond) → weight_left root b (w ∷ ws) (c ∷ cs) ≡ kept (is_false (truth Near root b c)) w +ℤ weight_left root b ws cs
left_step root b w ws c cs =
    by_bool (λ t. (if t then weight_left root b ws cs else w +ℤ weight_left root b ws cs) ≡ kept t w +ℤ weight_left root b ws cs) (is_false (truth Near root b c))
    (λ met. omega (arith, ints)) (λ unmet. refl)

-- the condition of a scenario
abbrev pub closed_at : Box → Box → List Thing → List ℕ → ℕ → Bool
closed_at root b all ids i = is_false (truth Near root b (cond_at all (get_or ids i 0)))

pub next_left : (root b : Box) (all : List Thing) (ws : List ℤ) (ids : List ℕ) (i : ℕ) → i < length ids → length ids ≡ length ws → weight_left root b (drop i ws) (map (cond_at all) (drop i ids))
    ≡ kept (closed_at root b all ids i) (get_or ws i (pos 0)) +ℤ weight_left root b (drop (i + 1) ws) (map (cond_at all) (drop (i + 1) ids))
next_left root b all ws ids i below each =
    at_drop_more (λ vs. weight_left root b vs (map (cond_at all) (drop i ids))) ws i (pos 0) (omega (arith, below, each))
    ∙ at_drop_more (λ ys. weight_left root b (get_or ws i (pos 0) ∷ drop (i + 1) ws) (map (cond_at all) ys)) ids i 0 below
    ∙ left_step root b (get_or ws i (pos 0)) (drop (i + 1) ws) (cond_at all (get_or ids i 0)) (map (cond_at all) (drop (i + 1) ids))

pub none_left : (root b : Box) (all : List Thing) (ws : List ℤ) (ids : List ℕ) (i : ℕ) → length ids ≤ i → length ids ≡ length ws
    → weight_left root b (drop i ws) (map (cond_at all) (drop i ids)) ≡ pos 0
none_left root b all ws ids i past each =
    at_drop_all (λ vs. weight_left root b vs (map (cond_at all) (drop i ids))) ws i (omega (arith, past, each))

-- the sum has room
fits_between : (z : ℤ) → pos 0 ≤ℤ z → z ≤ℤ pos (2 ^ 100) → FitsSigned w128 z
fits_between (pos n) low high = fits_signed_from_abs w128 (pos n) (omega (arith, ints, high))
fits_between (negsuc n) low high = absurd (omega (arith, ints, low))

kept_up : (t : Bool) (w : ℤ) → pos 1 ≤ℤ w → pos 0 ≤ℤ kept t w
kept_up true w up = omega (arith, ints)
kept_up false w up = omega (arith, ints, up)

kept_down : (t : Bool) (w : ℤ) → pos 1 ≤ℤ w → kept t w ≤ℤ w
kept_down true w up = omega (arith, ints, up)
kept_down false w up = omega (arith, ints)

pub sum_fits : (root b : Box) (all : List Thing) (ws : List ℤ) (ids : List ℕ) (whole : ℤ) (i : ℕ) (sum : ℤ) → Weighs ws → whole ≡ total ws → whole ≤ℤ pos (2 ^ 100) → length ids ≡ length ws
    → i < length ids → sum ≡ weight_left root b (drop (i + 1) ws) (map (cond_at all) (drop (i + 1) ids)) → FitsSigned w128 (kept (closed_at root b all ids i) (get_or ws i (pos 0)) +ℤ sum)
sum_fits root b all ws ids whole i sum weighs is light each below left =
    let there : i < length ws = omega (arith, below, each) in
    let w = at_weighs ws i weighs there in
    let up = kept_up (closed_at root b all ids i) (get_or ws i (pos 0)) w in
    let down = kept_down (closed_at root b all ids i) (get_or ws i (pos 0)) w in
    let rest_up = subst (λ s. pos 0 ≤ℤ s) (sym left) (left_up root b (drop (i + 1) ws) (map (cond_at all) (drop (i + 1) ids)) (weighs_on ws (i + 1) weighs)) in
    let rest_down = subst (λ s. s ≤ℤ total (drop (i + 1) ws)) (sym left) (left_down root b (drop (i + 1) ws) (map (cond_at all) (drop (i + 1) ids)) (weighs_on ws (i + 1) weighs)) in
    let here = at_drop_more total ws i (pos 0) there in
    let on = total_on ws i weighs in
    fits_between (kept (closed_at root b all ids i) (get_or ws i (pos 0)) +ℤ sum) (omega (arith, ints, up, rest_up)) (omega (arith, ints, down, rest_down, here, on, is, light))
