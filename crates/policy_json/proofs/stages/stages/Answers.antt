use Rattle.std.proofs.Common.{arith}
use Rattle.policy_json.specs.Stages.{stage_in}
use Rattle.policy_json.proofs.StageSteps.{stage_more, stages_done}
use Rattle.policy_json.proofs.stages.stages.Goals as goal

pub stages-preserved : goal.stages-preserved
stages-preserved c =
    stage_more (stage_in c.args.decisions.now c.args.stochs.now) c.stages.stage c.stages.found.items c.push.new.self.items c.in_ok-stage_at.field-0 c.stages.auto.stage
    c.stages.invariant c.in_ok-stage_at.ensures c.in_ok-push.ensures.items

pub returns : goal.returns
returns c = stages_done c.args.decisions.now c.args.stochs.now c.stages.stage c.stages.found.items c.stages.invariant (omega arith)
