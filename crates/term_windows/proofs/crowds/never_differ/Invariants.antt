use Rattle.std.proofs.Common.{◌≡◌, drop}
use Rattle.term_windows.specs.Windows.{spans}
use Rattle.term_windows.proofs.Crowding.{crowd_of}
use Rattle.term_windows.proofs.crowds.never_differ.Given as goal

abbrev pub invariant-ends : goal.invariant-ends
invariant-ends l = crowd_of (spans l.ends) (spans (drop l.from-index l.ends)) ≡ crowd_of (spans l.ends) (spans l.ends)
