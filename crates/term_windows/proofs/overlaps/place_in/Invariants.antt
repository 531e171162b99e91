use Rattle.std.proofs.Common.{take}
use Rattle.term_crowds.specs.Crowds.{HoldWhole}
use Rattle.term_windows.specs.Windows.{last_in, spans}
use Rattle.term_windows.proofs.overlaps.place_in.Given as goal

abbrev pub invariant-loop-place : goal.invariant-loop-place
invariant-loop-place l = HoldWhole l.window.low (last_in l.window) (take l.place (spans l.ends))
