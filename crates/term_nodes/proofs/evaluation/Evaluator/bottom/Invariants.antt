use Rattle.std.proofs.Common.{◌≡◌, ◌+◌, ◌≤◌}
use Rattle.term_nodes.specs.Operands.{steps_down}
use Rattle.term_nodes.specs.Things.{term_at, things}
use Rattle.term_nodes.proofs.evaluation.Evaluator.bottom.Given as goal

abbrev pub decreases-chain : goal.decreases-chain
decreases-chain l = l.id

abbrev pub invariant-chain : goal.invariant-chain
invariant-chain l =
    (l.id + l.steps ≤ l.top) × (term_at (things l.self.items.now) l.id ≡ steps_down l.steps (term_at (things l.self.items.now) l.top))
