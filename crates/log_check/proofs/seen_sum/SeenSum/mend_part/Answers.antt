use Rattle.log_check.proofs.Seeing.{kept_either}
use Rattle.log_check.proofs.seen_sum.SeenSum.mend_part.Goals as goal

pub returns-in-Some-clause-kept : goal.returns-in-Some-clause-kept
returns-in-Some-clause-kept g c =
    kept_either c.args.changes.now (g.P.SumParts.mention c.args.parts.now) (g.P.SumParts.count c.args.parts.now) (g.P.SumParts.value c.args.parts.now) c.args.self.now c.set.new.self c.args.at
    c.in-Some.part c.set.result c.requires.exists c.in-Some.ensures c.set.ensures.set c.set.ensures.unset c.requires.kept
