use Rattle.std.proofs.Common.{take, All}
use Rattle.log_rows.specs.Ranges.{RowFits}
use Rattle.log_tree.proofs.written.rows_fit.Given as goal

abbrev pub invariant-rows : goal.invariant-rows
invariant-rows l = All RowFits (take l.row-index l.rows)
