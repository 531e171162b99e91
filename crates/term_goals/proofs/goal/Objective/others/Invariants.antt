use Rattle.std.proofs.Common.{◌≡◌, ◌++◌, drop}
use Rattle.term_math.specs.Shown.{box_in}
use Rattle.term_nodes.specs.Things.{things}
use Rattle.term_goals.specs.Goals.{others}
use Rattle.term_goals.proofs.goal.Objective.others.Given as goal

abbrev pub invariant-loop-i : goal.invariant-loop-i
invariant-loop-i l =
    l.list.items ++ others (box_in l.here.root) (things l.here.items.now) (drop l.i l.self.weights.now) (drop l.i l.self.terms.now)
    ≡ others (box_in l.here.root) (things l.here.items.now) l.self.weights.now l.self.terms.now
