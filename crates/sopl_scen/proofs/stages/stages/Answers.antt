use Rattle.std.proofs.Common.{arith}
use Rattle.sopl_scen.specs.Stages.{stage_in}
use Rattle.sopl_scen.proofs.StageSteps.{stage_more, stages_done}
use Rattle.sopl_scen.proofs.stages.stages.Goals as goal

pub stages-preserved : goal.stages-preserved
stages-preserved c =
    stage_more (stage_in c.args.stochs.now) c.stages.stage c.stages.found.items c.push.new.self.items c.stage_at.result c.stages.auto.stage
    c.stages.invariant c.stage_at.ensures c.in_ok-push.ensures.items

pub returns : goal.returns
returns c = stages_done c.args.stochs.now c.stages.stage c.stages.found.items c.stages.invariant (omega arith)
