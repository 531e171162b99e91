use Rattle.std.proofs.Common.{arith}
use Rattle.prop_chance.proofs.Outdating.{all_unlisted}
use Rattle.prop_chance.proofs.outdated.Outdated.new.Goals as goal

pub returns-clause-listed : goal.returns-clause-listed
returns-clause-listed c = all_unlisted _ (omega (arith, c.in_ok-waits.ensures.len))
