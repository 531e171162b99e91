use Rattle.std.proofs.Common.{refl}
use Rattle.prop_chance.proofs.Outdating.{listed_more}
use Rattle.prop_chance.proofs.outdated.Outdated.list.Goals as goal

pub returns-then-len-capacity-clause-listed : goal.returns-then-len-capacity-clause-listed
returns-then-len-capacity-clause-listed c = listed_more c.args.self.now _ c.args.number refl c.push_reserved.ensures.items refl
