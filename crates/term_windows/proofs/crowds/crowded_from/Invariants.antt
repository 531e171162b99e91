use Rattle.term_windows.specs.Windows.{spans}
use Rattle.term_windows.proofs.Crowding.{IsSearched}
use Rattle.term_windows.proofs.crowds.crowded_from.Given as goal

abbrev pub invariant-windows : goal.invariant-windows
invariant-windows l = IsSearched (spans l.ends) l.from.low l.window

abbrev pub decreases-windows : goal.decreases-windows
decreases-windows l = l.window.width
