use Rattle.std.proofs.Common.{◌≡◌, ◌≤◌}
use Rattle.term_nodes.specs.Operands.{steps_down}
use Rattle.term_nodes.specs.Things.{term_at, things}
use Rattle.term_nodes.proofs.evaluation.Evaluator.lower.Given as goal

abbrev pub invariant-chain : goal.invariant-chain
invariant-chain l =
    (l.id ≤ l.top) × (term_at (things l.self.items.now) l.id ≡ steps_down l._step (term_at (things l.self.items.now) l.top))
