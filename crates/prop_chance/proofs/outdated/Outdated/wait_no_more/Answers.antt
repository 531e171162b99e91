use Rattle.std.proofs.Common.{refl}
use Rattle.prop_chance.proofs.Outdating.{listed_on}
use Rattle.prop_chance.proofs.outdated.Outdated.wait_no_more.Goals as goal

pub returns-clause-listed : goal.returns-clause-listed
returns-clause-listed c = listed_on c.args.self.now _ c.args.number c.requires.exists refl refl refl
