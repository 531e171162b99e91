use Rattle.log_check.proofs.Seeing.{sum_is}
use Rattle.log_check.proofs.seen_sum.SeenSum.renewed.Goals as goal

pub returns-clause-sum : goal.returns-clause-sum
returns-clause-sum g c =
    sum_is c.args.changes.now (g.P.SumParts.mention c.args.parts.now) (g.P.SumParts.count c.args.parts.now) (g.P.SumParts.value c.args.parts.now) c.mend.new.self c.mend.ensures.kept
    c.if-not-mend.ensures.all
