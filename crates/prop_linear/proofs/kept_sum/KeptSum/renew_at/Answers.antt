use Rattle.prop_linear.proofs.Renewing.{sums_renewed}
use Rattle.prop_linear.proofs.kept_sum.KeptSum.renew_at.Goals as goal

pub returns-clause-renewed : goal.returns-clause-renewed
returns-clause-renewed c = λ told met sums.
    sums_renewed told c.args._cell c.args.difference.now c.args.self.now _ c.args.place c.index.result.now c.part_at-part.result c.in-Some.rest c.requires.light c.requires.place c.requires.places
    c.part_at-part.ensures c.index.ensures (record { each = c.put.ensures.each; width = c.put.ensures.width; others = c.put.ensures.others }) c.in-Some.ensures.low c.in-Some.ensures.high
    c.in-Some-checked_with.ensures.low c.in-Some-checked_with.ensures.high sums
