use Rattle.std.proofs.Common.{◌≡◌, drop}
use Rattle.std.specs.List.{list_all}
use Rattle.term_language.specs.Globals.{are_apart}
use Rattle.term_math.specs.Shown.{ends_of}
use Rattle.term_windows.specs.Windows.{spans}
use Rattle.term_windows.proofs.crowds.apart_from.Given as goal

abbrev pub invariant-ends : goal.invariant-ends
invariant-ends l = list_all (are_apart (ends_of l.from)) (spans (drop l.here-index l.ends)) ≡ list_all (are_apart (ends_of l.from)) (spans l.ends)
