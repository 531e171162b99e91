use Rattle.std.proofs.Common.{◌≡◌, length}
use Rattle.term_language.specs.Globals.{always_differ}
use Rattle.term_windows.specs.Windows.{spans}
use Rattle.term_windows.proofs.crowds.always_differ.Given as goal

abbrev pub invariant-ends : goal.invariant-ends
invariant-ends l = always_differ (spans l.left) ≡ always_differ (spans l.ends)

abbrev pub decreases-ends : goal.decreases-ends
decreases-ends l = length l.left
