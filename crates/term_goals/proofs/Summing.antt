-- What is summed is each term times its weight, and has room where the objective's size is at most 2^126.
use Rattle.std.proofs.Common.{◌≡◌, ℕ, ◌+◌, ◌-◌, ◌*◌, ◌<◌, ◌≤◌, ◌^◌, zero, suc, max, ℤ, pos, ◌+ℤ◌, ◌*ℤ◌, ◌≤ℤ◌, unsigned_abs, Bool, true, false, if◌then◌else◌, List, [], ◌∷◌, ◌++◌}
use Rattle.std.proofs.Common.{length, get_or, drop, Option, Some, IfSome, Result, Ok, Err, IfOk, Vec, Global, arith, refl, ap, subst, sym, ◌∙◌}
use Rattle.std.proofs.lemmas.Int.{ints}
use Rattle.std.proofs.lemmas.List.{append_assoc, at_drop_more, at_drop_all, get_or_default}
use Rattle.std.specs.Option.{option_map_or}
use Rattle.std.proofs.Math.Nat.{mul-le-mul_left}
use Rattle.std.proofs.Math.IntN.{*ℤ-zero}
use Rattle.sopl_base.specs.declared.direction.Direction.{Direction}
use Rattle.sopl_base.proofs.Naturals.{spread, spread_left}
use Rattle.box_problem.specs.Box.{Box, IsBox, Inside}
use Rattle.box_problem.proofs.Shared.{lows_inside}
use Rattle.term_language.specs.Ends as ends
use Rattle.term_language.specs.Forms.{Form, plus_form, cells_ends, whole}
use Rattle.term_language.specs.Rules.{Near, form, atoms, interval}
use Rattle.term_language.specs.Sizes.{weight_of, atoms_weight, size}
use Rattle.term_language.specs.Terms.{Term}
use Rattle.term_language.proofs.FormValues.{by_if}
use Rattle.term_language.proofs.Layers.{IsClear}
use Rattle.term_language.proofs.Soundness.{read}
use Rattle.term_problem.specs.Objective.{expected_form, expected_atoms, expected_ends, worse_ends, worst_ends, greatest_size}
use Rattle.term_math.specs.Shown.{box_in}
use Rattle.term_math.specs.Sums.{mass_of, weight_in, wide_cells, wide_form}
use Rattle.term_nodes.specs.declared.items.Item.{Item}
use Rattle.term_nodes.specs.declared.evaluation.Evaluator.{Evaluator}
use Rattle.term_nodes.specs.Built.{AllBelow, IsBuilt}
use Rattle.term_nodes.specs.Seen.{IsReady}
use Rattle.term_nodes.specs.Things.{Thing, term_at, things}
use Rattle.term_nodes.proofs.Reading.{length_things}
use Rattle.term_nodes.proofs.Ready.{small_term}
use Rattle.term_goals.specs.declared.goal.Goal.{Goal}
use Rattle.term_store.proofs.Summing.{large, plus_large, weight_large, mass_light, form_light}
use Rattle.term_goals.specs.declared.sums.Atom.{Atom}
use Rattle.term_goals.specs.declared.sums.Summed.{Summed}
use Rattle.term_goals.specs.Goals.{AreWeights, HasRoom, IsSoundGoal, IsSummed, all_weight, atoms_ends, constant_of, goal_size, listed_ends, others, terms_of}
use Rattle.term_goals.proofs.Weights.{sum_of, small_sum}

-- both lists from a scenario on
two_drop : {A : Type 0} (P : List ℤ → List ℕ → A) (ws : List ℤ) (ids : List ℕ) (i : ℕ) (w : ℤ) (id : ℕ) → i < length ws → i < length ids → w ≡ get_or ws i w → id ≡ get_or ids i id
    → P (drop i ws) (drop i ids) ≡ P (w ∷ drop (i + 1) ws) (id ∷ drop (i + 1) ids)
two_drop P ws ids i w id below there at id_at =
    at_drop_more (λ ys. P ys (drop i ids)) ws i w below
    ∙ ap (λ (v : ℤ). P (v ∷ drop (i + 1) ws) (drop i ids)) (sym at)
    ∙ at_drop_more (λ ys. P (w ∷ drop (i + 1) ws) ys) ids i id there
    ∙ ap (λ (n : ℕ). P (w ∷ drop (i + 1) ws) (n ∷ drop (i + 1) ids)) (sym id_at)

-- forms
pub next_form : (root : Box) (all : List Thing) (ws : List ℤ) (ids : List ℕ) (i : ℕ) (w : ℤ) (id : ℕ) → length ids ≡ length ws → i < length ids → w ≡ get_or ws i w → id ≡ get_or ids i id
    → expected_form root (drop i ws) (terms_of all (drop i ids)) ≡ plus_form w (expected_form root (drop (i + 1) ws) (terms_of all (drop (i + 1) ids))) (form root (term_at all id))
next_form root all ws ids i w id same below at id_at =
    two_drop (λ vs ys. expected_form root vs (terms_of all ys)) ws ids i w id (omega (arith, same, below)) below at id_at

-- the non-linear part
pub next_others : (root : Box) (all : List Thing) (ws : List ℤ) (ids : List ℕ) (i : ℕ) (w : ℤ) (id : ℕ) → length ids ≡ length ws → i < length ids → w ≡ get_or ws i w → id ≡ get_or ids i id
    → others root all (drop i ws) (drop i ids) ≡ others root all (w ∷ drop (i + 1) ws) (id ∷ drop (i + 1) ids)
next_others root all ws ids i w id same below at id_at =
    two_drop (others root all) ws ids i w id (omega (arith, same, below)) below at id_at

pub no_others : (root : Box) (all : List Thing) (ws : List ℤ) (ids : List ℕ) (i : ℕ) → length ids ≡ length ws → length ids ≤ i → others root all (drop i ws) (drop i ids) ≡ []
no_others root all ws ids i same past =
    at_drop_all (λ ys. others root all ys (drop i ids)) ws i (omega (arith, same, past))

-- a term of cells alone adds nothing to it
pub clear_scaled : (w : ℤ) (a : ends.Ends) → IsClear a → ends.scaled w a ≡ ends.exactly (pos 0)
clear_scaled w a clear =
    ap (λ (z : ℤ). ends.between (w *ℤ z) (w *ℤ a.high)) clear.low
    ∙ ap (λ (z : ℤ). ends.between (w *ℤ pos 0) (w *ℤ z)) clear.high
    ∙ ap (λ (z : ℤ). ends.between z z) (*ℤ-zero w)

pub zero_plus : (c : ends.Ends) → ends.plus (ends.exactly (pos 0)) c ≡ c
zero_plus c =
    let low : pos 0 +ℤ c.low ≡ c.low = omega (arith, ints) in
    let high : pos 0 +ℤ c.high ≡ c.high = omega (arith, ints) in
    ap (λ (z : ℤ). ends.ends z (pos 0 +ℤ c.high)) low ∙ ap (λ (z : ℤ). ends.ends c.low z) high

pub clear_part : (w : ℤ) (a c : ends.Ends) → IsClear a → ends.plus (ends.scaled w a) c ≡ c
clear_part w a c clear = ap (λ (e : ends.Ends). ends.plus e c) (clear_scaled w a clear) ∙ zero_plus c

pub atoms_are : (root b : Box) (items : List Item) (ws : List ℤ) (ids : List ℕ) → IsBuilt root items → IsBox root → Inside b root → atoms_ends root b (things items) (others root (things items) ws ids)
    ≡ expected_atoms root b ws (terms_of (things items) ids)
atoms_are root b items [] ids built is_box inside = refl
atoms_are root b items (w ∷ ws) [] built is_box inside = refl
atoms_are root b items (w ∷ ws) (id ∷ ids) built is_box inside =
    let all = things items in
    let t = term_at all id in
    let rest = atoms_are root b items ws ids built is_box inside in
    by_if (λ xs. atoms_ends root b all xs ≡ ends.plus (ends.scaled w (atoms Near root b t)) (expected_atoms root b ws (terms_of all ids))) (form root t).plain
    (others root all ws ids) (record { k = w; term = id } ∷ others root all ws ids)
    (λ plain. rest ∙ sym (clear_part w (atoms Near root b t) (expected_atoms root b ws (terms_of all ids))
    ((read Near root b b.lows t inside.is_box (lows_inside b inside.is_box) (small_term root items id built).proper).clear plain)))
    (λ other. ap (ends.plus (ends.scaled w (atoms Near root b t))) rest)

summed_at : (root b : Box) (items : List Item) (weights : List ℤ) (ids : List ℕ) (s : Summed) → IsBuilt root items → IsBox root → Inside b root → IsSummed root (things items) weights ids s
    → whole b (wide_form s.form) (atoms_ends root b (things items) s.atoms.items) ≡ expected_ends root b weights (terms_of (things items) ids)
summed_at root b items weights ids s built is_box inside is =
    let all = things items in
    ap (λ (f : Form). whole b f (atoms_ends root b all s.atoms.items)) is.form
    ∙ ap (λ (xs : List Atom). whole b (expected_form root weights (terms_of all ids)) (atoms_ends root b all xs)) is.others
    ∙ ap (whole b (expected_form root weights (terms_of all ids))) (atoms_are root b items weights ids built is_box inside)

pub summed_ends : (here : Evaluator) (weights : List ℤ) (ids : List ℕ) (s : Summed) (a : ends.Ends) → IsReady here → IsSummed (box_in here.root) (things here.items.now) weights ids s → a
    ≡ whole (box_in here.view) (wide_form s.form) (atoms_ends (box_in here.root) (box_in here.view) (things here.items.now) s.atoms.items) → a
    ≡ expected_ends (box_in here.root) (box_in here.view) weights (terms_of (things here.items.now) ids)
summed_ends here weights ids s a ready is seen =
    seen ∙ summed_at (box_in here.root) (box_in here.view) here.items.now weights ids s ready.built ready.root_is_box ready.inside is

-- a list of all that is summed, and the constant
pub listed_sum : {E : Type 0} (here : Evaluator) (weights : List ℤ) (ids : List ℕ) (g : Goal) (s : Summed) (b : Box) (result : Result (Vec Atom Global) E) → IsReady here → Inside b (box_in here.root)
    → g.summed ≡ Some s → IsSummed (box_in here.root) (things here.items.now) weights ids s
    → IfOk result (λ list. listed_ends (box_in here.root) b (things here.items.now) list.items
    ≡ ends.plus (cells_ends b (wide_cells s.form.cells.items)) (atoms_ends (box_in here.root) b (things here.items.now) s.atoms.items))
    → IfOk result (λ list. ends.plus (ends.exactly (constant_of g)) (listed_ends (box_in here.root) b (things here.items.now) list.items)
    ≡ expected_ends (box_in here.root) b weights (terms_of (things here.items.now) ids))
listed_sum here weights ids g s b (Err e) ready inside kept is fact = tt
listed_sum here weights ids g s b (Ok list) ready inside kept is fact =
    let rest : ends.Ends = ends.plus (cells_ends b (wide_cells s.form.cells.items)) (atoms_ends (box_in here.root) b (things here.items.now) s.atoms.items) in
    ap (ends.plus (ends.exactly (constant_of g))) fact
    ∙ ap (λ (o : Option Summed). ends.plus (ends.exactly (option_map_or (λ (x : Summed). x.form.constant) o (pos 0))) rest) kept
    ∙ summed_at (box_in here.root) b here.items.now weights ids s ready.built ready.root_is_box inside is

step_heavy : (root : Box) (w : ℤ) (t : Term) (before weights greatest : ℕ) → before ≤ weights * greatest
    → before + unsigned_abs w * size root t ≤ (unsigned_abs w + weights) * max (size root t) greatest
step_heavy root w t before weights greatest most =
    let m : ℕ = max (size root t) greatest in
    let first : size root t ≤ m = omega arith in
    let second : greatest ≤ m = omega arith in
    omega (arith, most, mul-le-mul_left (unsigned_abs w) first, mul-le-mul_left weights second, spread (unsigned_abs w) weights m)

plus_weight : (root : Box) (w : ℤ) (f g : Form) → weight_in root (plus_form w f g) ≤ weight_in root f + unsigned_abs w * weight_in root g
plus_weight root w f g =
    let u : ℕ → ℕ = λ cell. weight_of (ends.cell_ends root cell) in
    let same : unsigned_abs w * weight_in root g ≡ unsigned_abs w * large u g = ap (λ (n : ℕ). unsigned_abs w * n) (weight_large root g) in
    omega (arith, plus_large u w f g, weight_large root (plus_form w f g), weight_large root f, same)

others_light : (root : Box) (all : List Thing) (w : ℤ) (ws : List ℤ) (id : ℕ) (ids : List ℕ)
    → all_weight root all (others root all (w ∷ ws) (id ∷ ids)) ≤ unsigned_abs w * atoms_weight root (term_at all id) + all_weight root all (others root all ws ids)
others_light root all w ws id ids =
    by_if (λ xs. all_weight root all xs ≤ unsigned_abs w * atoms_weight root (term_at all id) + all_weight root all (others root all ws ids)) (form root (term_at all id)).plain
    (others root all ws ids) (record { k = w; term = id } ∷ others root all ws ids)
    (λ plain. omega arith) (λ other. omega arith)

abbrev load : Box → List Thing → List ℤ → List ℕ → ℕ
load root all ws ids = weight_in root (expected_form root ws (terms_of all ids)) + all_weight root all (others root all ws ids)

load_more : (root : Box) (all : List Thing) (w : ℤ) (ws : List ℤ) (id : ℕ) (ids : List ℕ) → load root all (w ∷ ws) (id ∷ ids) ≤ load root all ws ids + unsigned_abs w * size root (term_at all id)
load_more root all w ws id ids =
    let t = term_at all id in
    let split : unsigned_abs w * size root t ≡ unsigned_abs w * weight_in root (form root t) + unsigned_abs w * atoms_weight root t =
    spread_left (unsigned_abs w) (weight_in root (form root t)) (atoms_weight root t) in
    omega (arith, split, plus_weight root w (expected_form root ws (terms_of all ids)) (form root t), others_light root all w ws id ids)

heavy : (root : Box) (all : List Thing) (ws : List ℤ) (ids : List ℕ) → load root all ws ids ≤ sum_of ws * greatest_size root (terms_of all ids)
heavy root all [] ids = omega arith
heavy root all (w ∷ ws) [] = omega arith
heavy root all (w ∷ ws) (id ∷ ids) =
    omega (arith, load_more root all w ws id ids, step_heavy root w (term_at all id) (load root all ws ids) (sum_of ws) (greatest_size root (terms_of all ids)) (heavy root all ws ids))

pub summed_room : (root : Box) (all : List Thing) (ws : List ℤ) (ids : List ℕ) (s : Summed) → AreWeights ws → goal_size root ws (terms_of all ids) ≤ℤ pos (2 ^ 126) → IsSummed root all ws ids s
    → HasRoom root all s
summed_room root all ws ids s are small is =
    omega (arith, ap (weight_in root) is.form, ap (all_weight root all) is.others, heavy root all ws ids, small_sum root ws (terms_of all ids) are small)

-- so there is room for each step
later_heavy : (root : Box) (all : List Thing) (ws : List ℤ) (ids : List ℕ) (i : ℕ) (w : ℤ) (id : ℕ) → i < length ws → i < length ids → w ≡ get_or ws i w → id ≡ get_or ids i id
    → load root all (drop (suc i) ws) (drop (suc i) ids) + unsigned_abs w * size root (term_at all id) ≤ sum_of ws * greatest_size root (terms_of all ids)
later_heavy root all [] ids i w id below there at id_at = omega (arith, below)
later_heavy root all (v ∷ ws) [] i w id below there at id_at = omega (arith, there)
later_heavy root all (v ∷ ws) (x ∷ ids) zero w id below there at id_at =
    subst (λ (u : ℤ). load root all ws ids + unsigned_abs u * size root (term_at all id) ≤ (unsigned_abs v + sum_of ws) * max (size root (term_at all x))
    (greatest_size root (terms_of all ids))) (sym at)
    (subst (λ (n : ℕ). load root all ws ids + unsigned_abs v * size root (term_at all n) ≤ (unsigned_abs v + sum_of ws) * max (size root (term_at all x))
    (greatest_size root (terms_of all ids))) (sym id_at)
    (step_heavy root v (term_at all x) (load root all ws ids) (sum_of ws) (greatest_size root (terms_of all ids)) (heavy root all ws ids)))
later_heavy root all (v ∷ ws) (x ∷ ids) (suc i) w id below there at id_at =
    let m : ℕ = max (size root (term_at all x)) (greatest_size root (terms_of all ids)) in
    let second : greatest_size root (terms_of all ids) ≤ m = omega arith in
    omega (arith, later_heavy root all ws ids i w id (omega (arith, below)) (omega (arith, there)) at id_at, mul-le-mul_left (sum_of ws) second, spread (unsigned_abs v) (sum_of ws) m)

pub form_room : (root : Box) (all : List Thing) (ws : List ℤ) (ids : List ℕ) (i : ℕ) (w : ℤ) (id : ℕ) (sum g : Form) → AreWeights ws → goal_size root ws (terms_of all ids) ≤ℤ pos (2 ^ 126)
    → i < length ws → i < length ids → w ≡ get_or ws i w → id ≡ get_or ids i id → sum ≡ expected_form root (drop (i + 1) ws) (terms_of all (drop (i + 1) ids)) → g ≡ form root (term_at all id)
    → mass_of sum + unsigned_abs w * mass_of g < 2 ^ 127
form_room root all ws ids i w id sum g are small below there at id_at sum_is is =
    let t = term_at all id in
    let light : mass_of (form root t) ≤ size root t = omega (arith, mass_light root (form root t)) in
    let same : unsigned_abs w * mass_of g ≡ unsigned_abs w * mass_of (form root t) = ap (λ (f : Form). unsigned_abs w * mass_of f) is in
    let next : suc i ≡ i + 1 = omega arith in
    let heavy_here = subst (λ (j : ℕ). load root all (drop j ws) (drop j ids) + unsigned_abs w * size root t ≤ sum_of ws * greatest_size root (terms_of all ids)) next
    (later_heavy root all ws ids i w id below there at id_at) in
    omega (
      arith,
      same,
      mul-le-mul_left (unsigned_abs w) light,
      ap mass_of sum_is,
      mass_light root (expected_form root (drop (i + 1) ws) (terms_of all (drop (i + 1) ids))),
      heavy_here,
      small_sum root ws (terms_of all ids) are small,
    )

pub form_back : (root : Box) (all : List Thing) (ws : List ℤ) (ids : List ℕ) (i d : ℕ) (w : ℤ) (sum g : Form) → AreWeights ws → goal_size root ws (terms_of all ids) ≤ℤ pos (2 ^ 126)
    → length ids ≡ length ws → 0 < i → i ≤ length ids → w ≡ get_or ws (i - 1) (pos 0) → sum ≡ expected_form root (drop i ws) (terms_of all (drop i ids)) → g
    ≡ form root (term_at all (get_or ids (i - 1) d)) → mass_of sum + unsigned_abs w * mass_of g < 2 ^ 127
form_back root all ws ids i d w sum g are small same positive most at sum_is is =
    let there : i - 1 < length ids = omega (arith, positive, most) in
    let below : i - 1 < length ws = omega (arith, there, same) in
    let again : i - 1 + 1 ≡ i = omega (arith, positive) in
    let x : ℤ = get_or ws (i - 1) (pos 0) in
    let id : ℕ = get_or ids (i - 1) d in
    let room = form_room root all ws ids (i - 1) x id sum g are small below there (get_or_default ws (i - 1) (pos 0) x below) (get_or_default ids (i - 1) d id there) (sum_is
    ∙ ap (λ (j : ℕ). expected_form root (drop j ws) (terms_of all (drop j ids))) (sym again)) is in
    subst (λ (z : ℤ). mass_of sum + unsigned_abs z * mass_of g < 2 ^ 127) (sym at) room

-- the worst scenario
worst_more : (direction : Direction) (root b : Box) (all : List Thing) (ids : List ℕ) (i id : ℕ) → suc i < length ids → id ≡ get_or ids i id → worst_ends direction root b (terms_of all (drop i ids))
    ≡ worse_ends direction (interval Near root b (term_at all id)) (worst_ends direction root b (terms_of all (drop (suc i) ids)))
worst_more direction root b all [] i id below at = let empty : ⊥ = omega (arith, below) in elim empty [ ]
worst_more direction root b all (x ∷ []) i id below at = let empty : ⊥ = omega (arith, below) in elim empty [ ]
worst_more direction root b all (x ∷ y ∷ ids) zero id below at =
    ap (λ (n : ℕ). worse_ends direction (interval Near root b (term_at all n)) (worst_ends direction root b (terms_of all (y ∷ ids)))) (sym at)
worst_more direction root b all (x ∷ y ∷ ids) (suc i) id below at = worst_more direction root b all (y ∷ ids) i id (omega (arith, below)) at

pub worst_back : (direction : Direction) (root b : Box) (all : List Thing) (ids : List ℕ) (i d : ℕ) (here found r : ends.Ends) → 0 < i → i < length ids → found
    ≡ worst_ends direction root b (terms_of all (drop i ids)) → here ≡ interval Near root b (term_at all (get_or ids (i - 1) d)) → r ≡ worse_ends direction here found → r
    ≡ worst_ends direction root b (terms_of all (drop (i - 1) ids))
worst_back direction root b all ids i d here found r positive below found_is here_is is =
    let again : suc (i - 1) ≡ i = omega (arith, positive) in
    let there : i - 1 < length ids = omega (arith, below) in
    let id : ℕ = get_or ids (i - 1) d in
    let more = worst_more direction root b all ids (i - 1) id (omega (arith, positive, below)) (get_or_default ids (i - 1) d id there) in
    is
    ∙ ap (λ (e : ends.Ends). worse_ends direction e found) here_is
    ∙ ap (worse_ends direction (interval Near root b (term_at all id))) (found_is ∙ ap (λ (j : ℕ). worst_ends direction root b (terms_of all (drop j ids))) (sym again))
    ∙ sym more

pub no_worst : (direction : Direction) (root b : Box) (all : List Thing) (ids : List ℕ) → length ids ≡ 0 → ends.exactly (pos 0) ≡ worst_ends direction root b (terms_of all ids)
no_worst direction root b all [] none = refl
no_worst direction root b all (x ∷ ids) none = let empty : ⊥ = omega (arith, none) in elim empty [ ]

pub some_there : (ids : List ℕ) → (length ids ≡ 0 → ⊥) → 0 < length ids
some_there [] some = let empty : ⊥ = some refl in elim empty [ ]
some_there (x ∷ ids) some = omega arith

last_is : (direction : Direction) (root b : Box) (all : List Thing) (ids : List ℕ) (i id : ℕ) → i + 1 ≡ length ids → id ≡ get_or ids i id → worst_ends direction root b (terms_of all (drop i ids))
    ≡ interval Near root b (term_at all id)
last_is direction root b all [] i id last at = let empty : ⊥ = omega (arith, last) in elim empty [ ]
last_is direction root b all (x ∷ []) zero id last at = ap (λ (n : ℕ). interval Near root b (term_at all n)) (sym at)
last_is direction root b all (x ∷ []) (suc i) id last at = let empty : ⊥ = omega (arith, last) in elim empty [ ]
last_is direction root b all (x ∷ y ∷ ids) zero id last at = let empty : ⊥ = omega (arith, last) in elim empty [ ]
last_is direction root b all (x ∷ y ∷ ids) (suc i) id last at = last_is direction root b all (y ∷ ids) i id (omega (arith, last)) at

pub worst_first : (direction : Direction) (root b : Box) (all : List Thing) (ids : List ℕ) (d : ℕ) (r : ends.Ends) → 0 < length ids → r
    ≡ interval Near root b (term_at all (get_or ids (length ids - 1) d)) → r ≡ worst_ends direction root b (terms_of all (drop (length ids - 1) ids))
worst_first direction root b all ids d r some is =
    let there : length ids - 1 < length ids = omega (arith, some) in
    let id : ℕ = get_or ids (length ids - 1) d in
    is ∙ sym (last_is direction root b all ids (length ids - 1) id (omega (arith, some)) (get_or_default ids (length ids - 1) d id there))

pub all_worst : (direction : Direction) (root b : Box) (all : List Thing) (ids : List ℕ) (i : ℕ) (r : ends.Ends) → i ≤ 0 → r ≡ worst_ends direction root b (terms_of all (drop i ids))
    → r ≡ worst_ends direction root b (terms_of all ids)
all_worst direction root b all ids i r none is =
    let at_zero : i ≡ 0 = omega (arith, none) in
    is ∙ ap (λ (j : ℕ). worst_ends direction root b (terms_of all (drop j ids))) at_zero

-- what is kept of it
others_split : (root : Box) (all : List Thing) (ws : List ℤ) (ids : List ℕ) (w : ℤ) (id : ℕ) (plain : Bool) → (form root (term_at all id)).plain ≡ plain → others root all (w ∷ ws) (id ∷ ids)
    ≡ (if plain then others root all ws ids else record { k = w; term = id } ∷ others root all ws ids)
others_split root all ws ids w id plain is =
    ap (λ (p : Bool). if p then others root all ws ids else record { k = w; term = id } ∷ others root all ws ids) is

next_at : (root : Box) (all : List Thing) (ws : List ℤ) (ids : List ℕ) (i d : ℕ) (plain : Bool) → length ids ≡ length ws → i < length ids → (form root (term_at all (get_or ids i d))).plain
    ≡ plain → others root all (drop i ws) (drop i ids) ≡ (if plain then others root all (drop (i + 1) ws) (drop (i + 1) ids) else record { k = get_or ws i (pos 0); term = get_or ids i d }
    ∷ others root all (drop (i + 1) ws) (drop (i + 1) ids))
next_at root all ws ids i d plain same there is =
    let w : ℤ = get_or ws i (pos 0) in
    let id : ℕ = get_or ids i d in
    let below : i < length ws = omega (arith, same, there) in
    next_others root all ws ids i w id same there (get_or_default ws i (pos 0) w below) (get_or_default ids i d id there)
    ∙ others_split root all (drop (i + 1) ws) (drop (i + 1) ids) w id plain is

pub others_skip : (root : Box) (all : List Thing) (ws : List ℤ) (ids : List ℕ) (i d : ℕ) (done result : List Atom) (f : Form) → length ids ≡ length ws → i < length ids → f
    ≡ form root (term_at all (get_or ids i d)) → f.plain ≡ true → done ++ others root all (drop i ws) (drop i ids) ≡ result → done ++ others root all (drop (i + 1) ws) (drop (i + 1) ids) ≡ result
others_skip root all ws ids i d done result f same there is plain before =
    ap (λ (xs : List Atom). done ++ xs) (sym (next_at root all ws ids i d true same there (ap (λ (g : Form). g.plain) (sym is) ∙ plain))) ∙ before

pub others_more : (root : Box) (all : List Thing) (ws : List ℤ) (ids : List ℕ) (i d : ℕ) (done next result : List Atom) (w : ℤ) (f : Form) → length ids ≡ length ws → i < length ids → f
    ≡ form root (term_at all (get_or ids i d)) → f.plain ≡ false → w ≡ get_or ws i (pos 0) → next ≡ done ++ record { k = w; term = get_or ids i d } ∷ [] → done
    ++ others root all (drop i ws) (drop i ids) ≡ result → next ++ others root all (drop (i + 1) ws) (drop (i + 1) ids) ≡ result
others_more root all ws ids i d done next result w f same there is other w_is next_is before =
    let rest : List Atom = others root all (drop (i + 1) ws) (drop (i + 1) ids) in
    ap (λ (xs : List Atom). xs ++ rest) next_is
    ∙ append_assoc done (record { k = w; term = get_or ids i d } ∷ []) rest
    ∙ ap (λ (v : ℤ). done ++ record { k = v; term = get_or ids i d } ∷ rest) w_is
    ∙ ap (λ (xs : List Atom). done ++ xs) (sym (next_at root all ws ids i d false same there (ap (λ (g : Form). g.plain) (sym is) ∙ other)))
    ∙ before

pub sound_goal : (root : Box) (items : List Item) (ids : List ℕ) (goal : Goal) (summed : Option Summed) → AllBelow (length items) ids → goal.terms.items ≡ ids → goal.summed ≡ summed
    → IfSome summed (HasRoom root (things items)) → IsSoundGoal root (things items) goal
sound_goal root items ids goal summed exist terms is room = record {
  exist = subst (λ (n : ℕ). AllBelow n goal.terms.items) (sym (length_things items)) (subst (AllBelow (length items)) (sym terms) exist);
  room = subst (λ (s : Option Summed). IfSome s (HasRoom root (things items))) (sym is) room;
}

-- the room for one size
pub size_of_term : (root : Box) (items : List Item) (id : ℕ) (f : Form) (n m : ℕ) → f ≡ form root (term_at (things items) id) → n ≡ weight_in root f → m ≡ atoms_weight root (term_at (things items) id)
    → n + m ≡ size root (term_at (things items) id)
size_of_term root items id f n m is n_is m_is = omega (arith, n_is, m_is, ap (weight_in root) is)

pub size_room : (root : Box) (items : List Item) (id : ℕ) (f : Form) → IsBuilt root items → f ≡ form root (term_at (things items) id) → weight_in root f ≤ 2 ^ 40
size_room root items id f built is = omega (arith, ap (weight_in root) is, form_light root items id built)
