use Rattle.sopl_term.specs.Built.{HasCells}
use Rattle.sopl_term.proofs.cells.cell_nodes.Given as goal

abbrev pub invariant-loop-cell : goal.invariant-loop-cell
invariant-loop-cell l = HasCells l.initial.store l.store l.nodes.items l.cell
