use Rattle.std.proofs.Common.{arith}
use Rattle.log_check.proofs.Seeing.{cleared_kept}
use Rattle.log_check.proofs.seen_sum.SeenSum.is_of.Goals as goal

pub returns-clause-kept : goal.returns-clause-kept
returns-clause-kept g c =
    cleared_kept c.args.changes.now (g.P.SumParts.mention c.args.parts.now) (g.P.SumParts.count c.args.parts.now) (g.P.SumParts.value c.args.parts.now) c.args.self.now c.clear.new.self
    (c.lists_all.ensures c.if-not-lists_all.false) c.clear.ensures.lists c.clear.ensures.count c.clear.ensures.seen (omega (arith, c.if-self-gt0.false)) c.clear.ensures.cleared
    c.clear.ensures.sum
