use Rattle.term_math.proofs.Ascents.{missing_told}
use Rattle.term_math.proofs.ascending.is_missing.Goals as goal

pub returns : goal.returns
returns c = missing_told c.args.number.now c.args.set.now c.gap.result c.is_some.result c.gap.ensures c.is_some.ensures
