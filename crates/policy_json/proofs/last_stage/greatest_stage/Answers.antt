use Rattle.std.proofs.Common.{arith, ap, ◌∙◌}
use Rattle.sopl_ast.specs.Instances.{Decision}
use Rattle.policy_json.proofs.LastStages.{last_step}
use Rattle.policy_json.proofs.last_stage.greatest_stage.Goals as goal

pub decisions-preserved : goal.decisions-preserved
decisions-preserved c = record {
  so_far = c.max-last.ensures
      ∙ last_step c.args.decisions.now c.decisions.decision-index c.decision-item.result c.decisions.last c.decision.inside.stage c.decisions-test.true c.decision-item.is
      (ap (λ (d : Decision). d.stage) c.decision.view_is) c.decisions.invariant.so_far;
  from = omega arith;
}
