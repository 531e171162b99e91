use Rattle.unfold_declarations.proofs.Values.{end_is}
use Rattle.unfold_declarations.proofs.declare.range_ends.Goals as goal

pub returns-clause-lower : goal.returns-clause-lower
returns-clause-lower c = end_is _ (λ ends. ends.lo) c.between.result (rw c.new-known.ensures at c.between.ensures.lower)

pub returns-clause-upper : goal.returns-clause-upper
returns-clause-upper c = end_is _ (λ ends. ends.hi) c.between.result (rw c.new-known.ensures at c.between.ensures.upper)
