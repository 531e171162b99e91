use Rattle.std.proofs.Common.{◌≡◌, drop}
use Rattle.term_math.specs.Shown.{box_in}
use Rattle.term_nodes.specs.Things.{things}
use Rattle.term_goals.specs.Wide.{wide_ends}
use Rattle.term_goals.specs.Goals.{atoms_ends}
use Rattle.term_goals.proofs.sums.atoms_ends.Given as goal

abbrev pub invariant-loop-i : goal.invariant-loop-i
invariant-loop-i l = wide_ends l.sum ≡ atoms_ends (box_in l.here.root) (box_in l.here.view) (things l.here.items.now) (drop l.i l.atoms)
