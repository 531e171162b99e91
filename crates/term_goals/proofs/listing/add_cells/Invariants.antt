use Rattle.std.proofs.Common.{drop, length}
use Rattle.term_language.specs.Forms.{cells_ends}
use Rattle.term_math.specs.Shown.{box_in}
use Rattle.term_math.specs.Sums.{wide_cells}
use Rattle.term_nodes.specs.Things.{things}
use Rattle.term_goals.specs.Goals.{Listed}
use Rattle.term_goals.proofs.listing.add_cells.Given as goal

abbrev pub invariant-loop-cell : goal.invariant-loop-cell
invariant-loop-cell l =
    Listed (box_in l.here.root) (things l.here.items.now) (length l.here.items.now) l.initial.list.items l.list.items (λ b. cells_ends b (wide_cells (drop l.cell-index l.cells)))
    (λ b. cells_ends b (wide_cells l.cells))
