use Rattle.std.specs.Prelude.{take}
use Rattle.log_tree.proofs.Cuts.{Feedless}
use Rattle.log_tree.proofs.cutting.first_line.Given as goal

abbrev pub invariant-bytes : goal.invariant-bytes
invariant-bytes l = Feedless (take l.i l.bytes)
