use Rattle.std.proofs.Common.{rules, ◌<◌, length, arith, refl, ◌∙◌}
use Rattle.sopl_io.proofs.Calling.{calls_more, stops_later}
use Rattle.sopl_io.proofs.Gathering.{none_gathered, on_err}
use Rattle.log_rows.proofs.Texts.{steps_prefix, steps_more}
use Rattle.sopl_io.specs.Calls.{no_call}
use Rattle.log_rows.proofs.row_lines.put_steps.Goals as goal

pub returns-in_err-put_step-clause-prefix : goal.returns-in_err-put_step-clause-prefix
returns-in_err-put_step-clause-prefix g c =
    let exists : c.steps.step-index < length c.args.steps.now = search rules in
    on_err _ (steps_prefix _ _ _ _ _ c.args.steps.now c.steps.step-index _ exists c.steps.invariant.gathered c.in_err-put_step.ensures.prefix)

pub steps-preserved : goal.steps-preserved
steps-preserved g c =
    let exists : c.steps.step-index < length c.args.steps.now = search rules in
    record {
      gathered = steps_more _ _ _ _ _ _ c.args.steps.now c.steps.step-index _ exists c.steps.invariant.gathered c.in_ok-put_step.ensures.all;
      size = c.put_step.ensures.size ∙ c.steps.invariant.size;
      calls = calls_more _ _ _ c.steps.invariant.calls c.in_ok-put_step.ensures.outcomes.all;
      names = c.put_step.ensures.names ∙ c.steps.invariant.names;
      later = omega (arith, c.steps.invariant.later, c.put_step.ensures.cause.later);
    }

pub steps-init : goal.steps-init
steps-init g c = record {
  gathered = none_gathered (g.K.Sink.taken c.args.sink.now) c.args.gather.now.kept;
  size = refl;
  calls = no_call;
  names = refl;
  later = omega arith;
}

pub returns-in_err-put_step-clause-outcomes : goal.returns-in_err-put_step-clause-outcomes
returns-in_err-put_step-clause-outcomes g c =
    stops_later (g.K.Sink.outcomes c.args.sink.now) (g.K.Sink.outcomes c.steps.sink) _ c.from_residual.result c.steps.invariant.calls (search rules)
