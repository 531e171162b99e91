use Rattle.sopl_ast.specs.WholeModel.{whole}
use Rattle.sopl_scen.proofs.GroundStated.{ground_stated}
use Rattle.sopl_scen.proofs.grounded.scenarios.Goals as goal

pub of-requires : goal.of-requires
of-requires c =
    record {
      stated =
          ground_stated (whole c.args.ground.now.typed.model) c.args.ground.now.typed.origin c.args.ground.now.unfolded.passes
          c.decisions.result.now c.stochs.result.now c.constraints-constraints.result c.decisions.ensures.decisions c.stochs.ensures.stochastics c.constraints-constraints.ensures;
    }
