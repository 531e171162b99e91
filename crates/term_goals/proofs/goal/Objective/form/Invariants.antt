use Rattle.std.proofs.Common.{◌≡◌, drop}
use Rattle.term_problem.specs.Objective.{expected_form}
use Rattle.term_math.specs.Shown.{box_in}
use Rattle.term_math.specs.Sums.{combination_of}
use Rattle.term_nodes.specs.Things.{things}
use Rattle.term_goals.specs.Goals.{terms_of}
use Rattle.term_goals.proofs.goal.Objective.form.Given as goal

abbrev pub invariant-loop-i : goal.invariant-loop-i
invariant-loop-i l = combination_of l.sum ≡ expected_form (box_in l.here.root) (drop l.i l.self.weights.now) (terms_of (things l.here.items.now) (drop l.i l.self.terms.now))
