use Rattle.std.proofs.Common.{◌≡◌, drop}
use Rattle.term_problem.specs.Objective.{greatest_size}
use Rattle.term_math.specs.Shown.{box_in}
use Rattle.term_nodes.specs.Things.{things}
use Rattle.term_goals.specs.Goals.{terms_of}
use Rattle.term_goals.proofs.sizes.greatest_size.Given as goal

abbrev pub invariant-loop-i : goal.invariant-loop-i
invariant-loop-i l = l.most ≡ greatest_size (box_in l.here.root) (terms_of (things l.here.items.now) (drop l.i l.terms))
