use Rattle.std.proofs.Common.{◌≡◌, drop}
use Rattle.term_math.specs.Shown.{cells_of}
use Rattle.term_cells.specs.Cells.{form_cells, with_cells}
use Rattle.term_cells.proofs.elements.put_form.Given as goal

abbrev pub invariant-form : goal.invariant-form
invariant-form l =
    with_cells l.cells.keys (form_cells (cells_of (drop l.coefficient-index l.form.cells.items)))
    ≡ with_cells l.fn.cells.keys (form_cells (cells_of l.form.cells.items))
