use Rattle.std.proofs.Common.{take}
use Rattle.term_crowds.specs.Crowds.{LowsWhole}
use Rattle.term_windows.specs.Windows.{spans}
use Rattle.term_windows.proofs.overlaps.first_overlap.Given as goal

abbrev pub invariant-loop-from : goal.invariant-loop-from
invariant-loop-from l = LowsWhole (spans l.ends) (take l.from-index (spans l.ends))
