use Rattle.std.proofs.Common.{◌≡◌, drop}
use Rattle.term_problem.specs.Objective.{worst_ends}
use Rattle.term_math.specs.Shown.{box_in, ends_of}
use Rattle.term_nodes.specs.Things.{things}
use Rattle.term_goals.specs.Goals.{terms_of}
use Rattle.term_goals.proofs.goal.worst.Given as goal

abbrev pub invariant-loop-i : goal.invariant-loop-i
invariant-loop-i l = ends_of l.found ≡ worst_ends l.direction (box_in l.here.root) (box_in l.here.view) (terms_of (things l.here.items.now) (drop l.i l.terms))
