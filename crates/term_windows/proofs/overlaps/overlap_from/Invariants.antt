use Rattle.term_windows.specs.Windows.{spans}
use Rattle.term_windows.proofs.Overlapping.{IsLooked}
use Rattle.term_windows.proofs.overlaps.overlap_from.Given as goal

abbrev pub invariant-windows : goal.invariant-windows
invariant-windows l = IsLooked (spans l.ends) l.from.low l.window

abbrev pub decreases-windows : goal.decreases-windows
decreases-windows l = l.window.width
