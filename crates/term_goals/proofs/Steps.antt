-- Steps of the interval of a sum, from the last part to the first, and the room that they have.
use Rattle.std.proofs.Common.{◌≡◌, ℕ, ◌+◌, ◌-◌, ◌*◌, ◌<◌, ◌≤◌, ◌^◌, zero, suc, ℤ, ◌*ℤ◌, unsigned_abs, List, [], ◌∷◌, length, get_or, drop, arith, ap, subst, sym, ◌∙◌}
use Rattle.std.specs.Int.{w128}
use Rattle.std.proofs.lemmas.Int.{unsigned_abs-mul, fits_signed_from_abs}
use Rattle.std.proofs.lemmas.List.{at_drop_more, at_drop_all, get_or_default}
use Rattle.std.proofs.Math.Nat.{mul-le-mul_left}
use Rattle.box_problem.specs.Box.{Box, IsBox, Inside}
use Rattle.term_language.specs.Ends as ends
use Rattle.term_language.specs.Forms.{Coefficient, cells_ends}
use Rattle.term_language.specs.Rules.{Near, atoms}
use Rattle.term_language.specs.Sizes.{weight_of, cells_weight, atoms_weight}
use Rattle.term_language.proofs.Bounds.{Bounds, bounds_zero, bounds_plus, bounds_scaled, bounds_weight, bounded_cells}
use Rattle.term_language.proofs.Narrowing.{within_cell, within_cells}
use Rattle.term_language.proofs.Shared.{bounds_within}
use Rattle.term_math.specs.declared.combinations.WideCoefficient.{WideCoefficient}
use Rattle.term_math.specs.Shown.{box_in, ends_at}
use Rattle.term_math.specs.Sums.{wide_cells}
use Rattle.term_math.proofs.Weighing.{times_back, drop_lighter}
use Rattle.term_nodes.specs.declared.evaluation.Evaluator.{Evaluator}
use Rattle.term_nodes.specs.Seen.{IsReady}
use Rattle.term_nodes.specs.Things.{Thing, term_at, things}
use Rattle.term_nodes.proofs.Ready.{near_bounds, small_term}
use Rattle.term_goals.specs.declared.sums.Atom.{Atom}
use Rattle.term_goals.specs.declared.sums.Summed.{Summed}
use Rattle.term_goals.specs.Wide.{IsWideFit}
use Rattle.term_goals.specs.Goals.{HasRoom, all_weight, atoms_ends}

pub wide_fit : (a : ends.Ends) (n : ℕ) → Bounds a n → n < 2 ^ 127 → IsWideFit a
wide_fit a n bounds room = record {
  low = fits_signed_from_abs w128 a.low (omega (arith, bounds.low, room));
  high = fits_signed_from_abs w128 a.high (omega (arith, bounds.high, room));
}

wide_fit_at : (k : ℤ) (a : ends.Ends) (n : ℕ) → Bounds a n → unsigned_abs k * n < 2 ^ 127 → IsWideFit (ends_at k a)
wide_fit_at k a n bounds room = record {
  low = fits_signed_from_abs w128 (k *ℤ a.low) (omega (arith, unsigned_abs-mul k a.low, mul-le-mul_left (unsigned_abs k) bounds.low, room));
  high = fits_signed_from_abs w128 (k *ℤ a.high) (omega (arith, unsigned_abs-mul k a.high, mul-le-mul_left (unsigned_abs k) bounds.high, room));
}

-- the cells
pub next_cells : (b : Box) (xs : List WideCoefficient) (i : ℕ) (x : WideCoefficient) → i < length xs → x ≡ get_or xs i x → cells_ends b (wide_cells (drop i xs))
    ≡ ends.plus (ends.scaled x.k (ends.cell_ends b x.cell)) (cells_ends b (wide_cells (drop (i + 1) xs)))
next_cells b xs i x below at =
    at_drop_more (λ ys. cells_ends b (wide_cells ys)) xs i x below
    ∙ ap (λ (y : WideCoefficient). ends.plus (ends.scaled y.k (ends.cell_ends b y.cell)) (cells_ends b (wide_cells (drop (i + 1) xs)))) (sym at)

pub no_cells : (b : Box) (xs : List WideCoefficient) (i : ℕ) → length xs ≤ i → cells_ends b (wide_cells (drop i xs)) ≡ cells_ends b []
no_cells b xs i past = at_drop_all (λ ys. cells_ends b (wide_cells ys)) xs i past

cells_bounds : (root b : Box) (cells : List Coefficient) → IsBox root → Inside b root → Bounds (cells_ends b cells) (cells_weight root cells)
cells_bounds root b cells is_box inside =
    bounds_within (cells_ends b cells) (cells_ends root cells) (cells_weight root cells) (within_cells b root cells is_box inside) (bounded_cells root cells)

pub times_cell_fit : (here : Evaluator) (xs : List WideCoefficient) (i : ℕ) (d : WideCoefficient) → IsReady here → cells_weight (box_in here.root) (wide_cells xs) < 2 ^ 127 → 0 < i → i ≤ length xs
    → IsWideFit (ends_at (get_or xs (i - 1) d).k (ends.cell_ends (box_in here.view) (get_or xs (i - 1) d).cell))
times_cell_fit here xs i d ready room positive most =
    let root = box_in here.root in
    let x : WideCoefficient = get_or xs (i - 1) d in
    wide_fit_at x.k (ends.cell_ends (box_in here.view) x.cell) (weight_of (ends.cell_ends root x.cell))
    (bounds_within (ends.cell_ends (box_in here.view) x.cell) (ends.cell_ends root x.cell) (weight_of (ends.cell_ends root x.cell))
    (within_cell (box_in here.view) root x.cell ready.root_is_box ready.inside) (bounds_weight (ends.cell_ends root x.cell)))
    (times_back root xs i d room positive most)

pub cells_fit : (here : Evaluator) (xs : List WideCoefficient) (i : ℕ) (d : WideCoefficient) (times sum : ends.Ends) → IsReady here → cells_weight (box_in here.root) (wide_cells xs) < 2 ^ 127
    → 0 < i → i ≤ length xs → times ≡ ends.scaled (get_or xs (i - 1) d).k (ends.cell_ends (box_in here.view) (get_or xs (i - 1) d).cell) → sum ≡ cells_ends (box_in here.view) (wide_cells (drop i xs))
    → IsWideFit (ends.plus times sum)
cells_fit here xs i d times sum ready room positive most times_is sum_is =
    let b = box_in here.view in
    let there : i - 1 < length xs = omega (arith, positive, most) in
    let again : i - 1 + 1 ≡ i = omega (arith, positive) in
    let x : WideCoefficient = get_or xs (i - 1) d in
    let cells = wide_cells (drop (i - 1) xs) in
    let next = next_cells b xs (i - 1) x there (get_or_default xs (i - 1) d x there) in
    let same : ends.plus times sum ≡ cells_ends b cells =
    ap (λ (e : ends.Ends). ends.plus e sum) times_is
    ∙ ap (λ (e : ends.Ends). ends.plus (ends.scaled x.k (ends.cell_ends b x.cell)) e) (sum_is ∙ ap (λ (j : ℕ). cells_ends b (wide_cells (drop j xs))) (sym again))
    ∙ sym next in
    subst IsWideFit (sym same)
    (wide_fit (cells_ends b cells) (cells_weight (box_in here.root) cells) (cells_bounds (box_in here.root) b cells ready.root_is_box ready.inside)
    (omega (arith, drop_lighter (box_in here.root) (i - 1) xs, room)))

-- the non-linear part
pub next_atoms : (root b : Box) (all : List Thing) (xs : List Atom) (i : ℕ) (x : Atom) → i < length xs → x ≡ get_or xs i x → atoms_ends root b all (drop i xs)
    ≡ ends.plus (ends.scaled x.k (atoms Near root b (term_at all x.term))) (atoms_ends root b all (drop (i + 1) xs))
next_atoms root b all xs i x below at =
    at_drop_more (λ ys. atoms_ends root b all ys) xs i x below
    ∙ ap (λ (y : Atom). ends.plus (ends.scaled y.k (atoms Near root b (term_at all y.term))) (atoms_ends root b all (drop (i + 1) xs))) (sym at)

pub no_atoms : (root b : Box) (all : List Thing) (xs : List Atom) (i : ℕ) → length xs ≤ i → atoms_ends root b all (drop i xs) ≡ atoms_ends root b all []
no_atoms root b all xs i past = at_drop_all (λ ys. atoms_ends root b all ys) xs i past

next_all_weight : (root : Box) (all : List Thing) (xs : List Atom) (i : ℕ) (x : Atom) → i < length xs → x ≡ get_or xs i x → all_weight root all (drop i xs)
    ≡ unsigned_abs x.k * atoms_weight root (term_at all x.term) + all_weight root all (drop (i + 1) xs)
next_all_weight root all xs i x below at =
    at_drop_more (λ ys. all_weight root all ys) xs i x below
    ∙ ap (λ (y : Atom). unsigned_abs y.k * atoms_weight root (term_at all y.term) + all_weight root all (drop (i + 1) xs)) (sym at)

atoms_lighter : (root : Box) (all : List Thing) (i : ℕ) (xs : List Atom) → all_weight root all (drop i xs) ≤ all_weight root all xs
atoms_lighter root all zero xs = omega arith
atoms_lighter root all (suc i) [] = omega arith
atoms_lighter root all (suc i) (x ∷ xs) = omega (arith, atoms_lighter root all i xs)

atom_bounds : (here : Evaluator) (id : ℕ) → IsReady here → Bounds (atoms Near (box_in here.root) (box_in here.view) (term_at (things here.items.now) id))
    (atoms_weight (box_in here.root) (term_at (things here.items.now) id))
atom_bounds here id ready =
    near_bounds Near (box_in here.root) (box_in here.view) (term_at (things here.items.now) id) ready.root_is_box ready.inside (small_term (box_in here.root) here.items.now id ready.built).proper

atoms_bounds : (here : Evaluator) (xs : List Atom) → IsReady here
    → Bounds (atoms_ends (box_in here.root) (box_in here.view) (things here.items.now) xs) (all_weight (box_in here.root) (things here.items.now) xs)
atoms_bounds here [] ready = bounds_zero 0
atoms_bounds here (x ∷ xs) ready =
    let a = atoms Near (box_in here.root) (box_in here.view) (term_at (things here.items.now) x.term) in
    let n = atoms_weight (box_in here.root) (term_at (things here.items.now) x.term) in
    bounds_plus (ends.scaled x.k a) (atoms_ends (box_in here.root) (box_in here.view) (things here.items.now) xs) (unsigned_abs x.k * n) (all_weight (box_in here.root) (things here.items.now) xs)
    (bounds_scaled x.k a n (atom_bounds here x.term ready)) (atoms_bounds here xs ready)

pub times_atom_fit : (here : Evaluator) (xs : List Atom) (i : ℕ) (d : Atom) → IsReady here → all_weight (box_in here.root) (things here.items.now) xs < 2 ^ 127 → 0 < i → i ≤ length xs
    → IsWideFit (ends_at (get_or xs (i - 1) d).k (atoms Near (box_in here.root) (box_in here.view) (term_at (things here.items.now) (get_or xs (i - 1) d).term)))
times_atom_fit here xs i d ready room positive most =
    let root = box_in here.root in
    let all = things here.items.now in
    let x : Atom = get_or xs (i - 1) d in
    let there : i - 1 < length xs = omega (arith, positive, most) in
    wide_fit_at x.k (atoms Near root (box_in here.view) (term_at all x.term)) (atoms_weight root (term_at all x.term)) (atom_bounds here x.term ready)
    (omega (arith, room, next_all_weight root all xs (i - 1) x there (get_or_default xs (i - 1) d x there), atoms_lighter root all (i - 1) xs))

pub atoms_fit : (here : Evaluator) (xs : List Atom) (i : ℕ) (d : Atom) (times sum : ends.Ends) → IsReady here → all_weight (box_in here.root) (things here.items.now) xs < 2 ^ 127 → 0 < i
    → i ≤ length xs → times ≡ ends.scaled (get_or xs (i - 1) d).k (atoms Near (box_in here.root) (box_in here.view) (term_at (things here.items.now) (get_or xs (i - 1) d).term)) → sum
    ≡ atoms_ends (box_in here.root) (box_in here.view) (things here.items.now) (drop i xs) → IsWideFit (ends.plus times sum)
atoms_fit here xs i d times sum ready room positive most times_is sum_is =
    let root = box_in here.root in
    let b = box_in here.view in
    let all = things here.items.now in
    let there : i - 1 < length xs = omega (arith, positive, most) in
    let again : i - 1 + 1 ≡ i = omega (arith, positive) in
    let x : Atom = get_or xs (i - 1) d in
    let ys : List Atom = drop (i - 1) xs in
    let next = next_atoms root b all xs (i - 1) x there (get_or_default xs (i - 1) d x there) in
    let same : ends.plus times sum ≡ atoms_ends root b all ys =
    ap (λ (e : ends.Ends). ends.plus e sum) times_is
    ∙ ap (λ (e : ends.Ends). ends.plus (ends.scaled x.k (atoms Near root b (term_at all x.term))) e) (sum_is ∙ ap (λ (j : ℕ). atoms_ends root b all (drop j xs)) (sym again))
    ∙ sym next in
    subst IsWideFit (sym same)
    (wide_fit (atoms_ends root b all ys) (all_weight root all ys) (atoms_bounds here ys ready) (omega (arith, atoms_lighter root all (i - 1) xs, room)))

-- the whole sum
others_bounds : (here : Evaluator) (s : Summed) → IsReady here → Bounds
    (ends.plus (cells_ends (box_in here.view) (wide_cells s.form.cells.items)) (atoms_ends (box_in here.root) (box_in here.view) (things here.items.now) s.atoms.items))
    (cells_weight (box_in here.root) (wide_cells s.form.cells.items) + all_weight (box_in here.root) (things here.items.now) s.atoms.items)
others_bounds here s ready =
    bounds_plus (cells_ends (box_in here.view) (wide_cells s.form.cells.items)) (atoms_ends (box_in here.root) (box_in here.view) (things here.items.now) s.atoms.items)
    (cells_weight (box_in here.root) (wide_cells s.form.cells.items)) (all_weight (box_in here.root) (things here.items.now) s.atoms.items)
    (cells_bounds (box_in here.root) (box_in here.view) (wide_cells s.form.cells.items) ready.root_is_box ready.inside) (atoms_bounds here s.atoms.items ready)

pub others_fit : (here : Evaluator) (s : Summed) (cells others : ends.Ends) → IsReady here → HasRoom (box_in here.root) (things here.items.now) s → cells
    ≡ cells_ends (box_in here.view) (wide_cells s.form.cells.items) → others ≡ atoms_ends (box_in here.root) (box_in here.view) (things here.items.now) s.atoms.items
    → IsWideFit (ends.plus cells others)
others_fit here s cells others ready room cells_is others_is =
    subst IsWideFit (sym (ap (λ (e : ends.Ends). ends.plus e others) cells_is ∙ ap (ends.plus (cells_ends (box_in here.view) (wide_cells s.form.cells.items))) others_is))
    (wide_fit (ends.plus (cells_ends (box_in here.view) (wide_cells s.form.cells.items)) (atoms_ends (box_in here.root) (box_in here.view) (things here.items.now) s.atoms.items))
    (cells_weight (box_in here.root) (wide_cells s.form.cells.items) + all_weight (box_in here.root) (things here.items.now) s.atoms.items) (others_bounds here s ready) (omega (arith, room)))

pub whole_fit : (here : Evaluator) (s : Summed) (constant others : ends.Ends) → IsReady here → HasRoom (box_in here.root) (things here.items.now) s → constant ≡ ends.exactly s.form.constant
    → others ≡ ends.plus (cells_ends (box_in here.view) (wide_cells s.form.cells.items)) (atoms_ends (box_in here.root) (box_in here.view) (things here.items.now) s.atoms.items)
    → IsWideFit (ends.plus constant others)
whole_fit here s constant others ready room constant_is others_is =
    let rest : ends.Ends = ends.plus (cells_ends (box_in here.view) (wide_cells s.form.cells.items)) (atoms_ends (box_in here.root) (box_in here.view) (things here.items.now) s.atoms.items) in
    let n : ℕ = cells_weight (box_in here.root) (wide_cells s.form.cells.items) + all_weight (box_in here.root) (things here.items.now) s.atoms.items in
    subst IsWideFit (sym (ap (λ (e : ends.Ends). ends.plus e others) constant_is ∙ ap (ends.plus (ends.exactly s.form.constant)) others_is))
    (wide_fit (ends.plus (ends.exactly s.form.constant) rest) (unsigned_abs s.form.constant + n)
    (bounds_plus (ends.exactly s.form.constant) rest (unsigned_abs s.form.constant) n (record { low = omega arith; high = omega arith }) (others_bounds here s ready)) (omega (arith, room)))
