-- Cells as terms in a list.
use Rattle.std.proofs.Common.{◌≡◌, ℕ, ◌+◌, ◌<◌, ◌≤◌, pos, ◌≤ℤ◌, List, [], ◌∷◌, ◌++◌, length, get_or, drop, arith, ap, sym, ◌∙◌, inl, inr}
use Rattle.std.proofs.lemmas.Bool.{cases_lt}
use Rattle.std.proofs.lemmas.Int.{ints, clamps}
use Rattle.std.proofs.lemmas.List.{at_drop_all, get_or_default, get_or_past}
use Rattle.box_problem.specs.Box.{Box, IsBox, Inside}
use Rattle.term_language.specs.Ends as ends
use Rattle.term_language.specs.Forms.{cells_ends}
use Rattle.term_language.specs.Rules.{Near, interval}
use Rattle.term_language.specs.Terms.{Cell}
use Rattle.term_language.proofs.Narrowing.{within_cell}
use Rattle.term_language.proofs.Products.{one-*ℤ}
use Rattle.term_math.specs.declared.combinations.WideCoefficient.{WideCoefficient}
use Rattle.term_math.specs.Sums.{wide_cells}
use Rattle.term_nodes.specs.declared.items.Item.{Item}
use Rattle.term_nodes.specs.Things.{Thing, nothing, term_at, term_in, things}
use Rattle.term_nodes.proofs.Reading.{nothing_past}
use Rattle.term_goals.specs.declared.sums.Atom.{Atom}
use Rattle.term_goals.specs.Goals.{AreCells, AtomsExist, listed_ends}
use Rattle.term_goals.proofs.Steps.{next_cells}
use Rattle.term_goals.proofs.Summing.{zero_plus, clear_part}
use Rattle.term_goals.proofs.Leaves.{plus_zero, plus_assoc, same_ends}
use Rattle.term_goals.proofs.Growing.{atom_exists, listed_more}

once : (a : ends.Ends) → a.low ≤ℤ a.high → ends.scaled (pos 1) a ≡ a
once a ordered =
    let low = one-*ℤ a.low in
    let high = one-*ℤ a.high in
    same_ends (ends.scaled (pos 1) a) a (omega (arith, ints, clamps, low, high, ordered)) (omega (arith, ints, clamps, low, high, ordered))

cell_interval : (root b : Box) (cell : ℕ) → IsBox root → Inside b root → interval Near root b (Cell cell) ≡ ends.cell_ends b cell
cell_interval root b cell is_box inside =
    let e : ends.Ends = ends.cell_ends b cell in
    zero_plus (ends.plus (ends.plus (ends.scaled (pos 1) e) (ends.exactly (pos 0))) (ends.exactly (pos 0)))
    ∙ plus_zero (ends.plus (ends.scaled (pos 1) e) (ends.exactly (pos 0)))
    ∙ plus_zero (ends.scaled (pos 1) e)
    ∙ once e (within_cell b root cell is_box inside).ordered

pub cell_step : (root b : Box) (all : List Thing) (nodes : List ℕ) (xs : List WideCoefficient) (i : ℕ) (d : WideCoefficient) (node : ℕ) (list next : List Atom) (atom : Atom) (result : ends.Ends)
    → AreCells root all nodes → IsBox root → Inside b root → i < length xs → node ≡ get_or nodes (get_or xs i d).cell 0 → (get_or xs i d).cell < length nodes → next ≡ list ++ atom ∷ []
    → atom ≡ record { k = (get_or xs i d).k; term = node } → ends.plus (listed_ends root b all list) (cells_ends b (wide_cells (drop i xs))) ≡ result
    → ends.plus (listed_ends root b all next) (cells_ends b (wide_cells (drop (i + 1) xs))) ≡ result
cell_step root b all nodes xs i d node list next atom result are is_box inside below node_is there next_is atom_is before =
    let x : WideCoefficient = get_or xs i d in
    let rest : ends.Ends = cells_ends b (wide_cells (drop (i + 1) xs)) in
    let e : ends.Ends = ends.cell_ends b x.cell in
    let term_is : term_at all node ≡ Cell x.cell = ap (term_at all) node_is ∙ are.is_cell x.cell there in
    let here : interval Near root b (term_at all node) ≡ e = ap (interval Near root b) term_is ∙ cell_interval root b x.cell is_box inside in
    let grown : listed_ends root b all next ≡ ends.plus (listed_ends root b all list) (ends.scaled x.k e) =
    ap (listed_ends root b all) (next_is ∙ ap (λ (a : Atom). list ++ a ∷ []) atom_is)
    ∙ listed_more root b all list (record { k = x.k; term = node })
    ∙ ap (λ (f : ends.Ends). ends.plus (listed_ends root b all list) (ends.scaled x.k f)) here in
    ap (λ (f : ends.Ends). ends.plus f rest) grown
    ∙ plus_assoc (listed_ends root b all list) (ends.scaled x.k e) rest
    ∙ ap (ends.plus (listed_ends root b all list)) (sym (next_cells b xs i x below (get_or_default xs i d x below)))
    ∙ before

pub cell_skip : (root b : Box) (all : List Thing) (nodes : List ℕ) (xs : List WideCoefficient) (i : ℕ) (d : WideCoefficient) (list result : ends.Ends) → AreCells root all nodes → Inside b root
    → i < length xs → length nodes ≤ (get_or xs i d).cell → ends.plus list (cells_ends b (wide_cells (drop i xs))) ≡ result → ends.plus list (cells_ends b (wide_cells (drop (i + 1) xs))) ≡ result
cell_skip root b all nodes xs i d list result are inside below past before =
    let x : WideCoefficient = get_or xs i d in
    let rest : ends.Ends = cells_ends b (wide_cells (drop (i + 1) xs)) in
    let low : (ends.cell_ends b x.cell).low ≡ pos 0 = get_or_past b.lows x.cell (pos 0) (omega (arith, past, are.each_cell, inside.same_cells)) in
    let high : (ends.cell_ends b x.cell).high ≡ pos 0 = get_or_past b.highs x.cell (pos 0) (omega (arith, past, are.each_cell, inside.same_cells, inside.is_box.paired)) in
    ap (ends.plus list) (sym (clear_part x.k (ends.cell_ends b x.cell) rest (record { low = low; high = high })) ∙ sym (next_cells b xs i x below (get_or_default xs i d x below)))
    ∙ before

pub cells_done : (b : Box) (xs : List WideCoefficient) (i : ℕ) (list result : ends.Ends) → length xs ≤ i → ends.plus list (cells_ends b (wide_cells (drop i xs))) ≡ result → list ≡ result
cells_done b xs i list result past before =
    sym (plus_zero list) ∙ ap (ends.plus list) (sym (at_drop_all (λ ys. cells_ends b (wide_cells ys)) xs i past)) ∙ before

-- what is a cell exists
node_exists : (items : List Item) (node cell : ℕ) → term_at (things items) node ≡ Cell cell → node < length items
node_exists items node cell is =
    elim (cases_lt node (length items)) [
      | inl there ↦ there
      | inr past ↦ absurd (no_cell cell (sym (ap term_in (nothing_past items node past)) ∙ is))
    ]
  where
    no_cell : (cell : ℕ) → ¬ term_in nothing ≡ Cell cell
    no_cell cell e = cc

pub cell_exists : (items : List Item) (nodes : List ℕ) (x : WideCoefficient) (node : ℕ) (list next : List Atom) (atom : Atom) (root : Box) → AreCells root (things items) nodes → node
    ≡ get_or nodes x.cell 0 → x.cell < length nodes → next ≡ list ++ atom ∷ [] → atom ≡ record { k = x.k; term = node } → AtomsExist (length items) list → AtomsExist (length items) next
cell_exists items nodes x node list next atom root are node_is there next_is atom_is all =
    atom_exists (length items) list next atom x.k node all (node_exists items node x.cell (ap (term_at (things items)) node_is ∙ are.is_cell x.cell there)) next_is atom_is
