use Rattle.std.proofs.Common.{◌∙◌, arith}
use Rattle.sopl_io.proofs.Calling.{calls_more}
use Rattle.sopl_io.proofs.Gathering.{gathered_prefix, gathered_next, on_err}
use Rattle.sopl_io.proofs.gather.Gather.put.Goals as goal

pub returns-in_err-fill-clause-prefix : goal.returns-in_err-fill-clause-prefix
returns-in_err-fill-clause-prefix g c =
    on_err _ (gathered_prefix _ _ _ _ _ _ _ c.pieces.invariant.gathered c.parts_at-parts.ensures.whole _ c.in_err-fill.ensures.prefix)

pub pieces-preserved : goal.pieces-preserved
pieces-preserved g c = record {
  gathered = gathered_next _ _ _ _ _ _ _ c.pieces.invariant.gathered c.parts_at-parts.ensures.whole _ _ c.in_ok-fill.ensures.all c.in_ok-fill.ensures.kept;
  size = c.fill.ensures.size ∙ c.pieces.invariant.size;
  calls = calls_more _ _ _ c.pieces.invariant.calls c.in_ok-fill.ensures.outcomes.all;
  names = c.fill.ensures.names ∙ c.pieces.invariant.names;
  later = omega (arith, c.pieces.invariant.later, c.fill.ensures.cause.later);
}
