use Rattle.term_math.proofs.Ascents.{gap_found}
use Rattle.term_math.proofs.ascending.gap.Goals as goal

pub returns-in-Err : goal.returns-in-Err
returns-in-Err c = gap_found c.args.number.now c.args.set.now c.in-Err.place c.requires.ascends c.in-Err.ensures.position
