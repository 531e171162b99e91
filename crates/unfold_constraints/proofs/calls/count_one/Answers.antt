use Rattle.unfold_constants.proofs.Steps.{agree_count}
use Rattle.unfold_constraints.proofs.Answered.{answers_so, counted_so}
use Rattle.unfold_constraints.proofs.calls.count_one.Goals as goal

pub returns : goal.returns
returns c = answers_so (λ u. u) _ _ c.add.result agree_count c.add.ensures (counted_so c.add.result)
