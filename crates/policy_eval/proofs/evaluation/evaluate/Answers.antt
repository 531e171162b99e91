use Rattle.std.proofs.Common.{rules, ◌≡◌, sym, ap, subst, ◌∙◌, map}
use Rattle.sopl_ast.specs.Cells.{IsPoint, cells}
use Rattle.sopl_ast.specs.References.{now_of}
use Rattle.sopl_ast.specs.WholeModel.{whole}
use Rattle.policy_eval.proofs.Ready.{few_decided, few_drawn, may_try, posed_is, report_either}
use Rattle.policy_eval.proofs.evaluation.evaluate.Goals as goal
use Rattle.sopl_unfold.specs.GroundProblem.{ground_problem}

pub of-requires-clause-few_drawn : goal.of-requires-clause-few_drawn
of-requires-clause-few_drawn c = few_drawn (whole c.args.ground.now.typed.model) c.args.ground.now.unfolded.passes c.stochs.result.now c.stochs.ensures.stochastics

pub of-requires-clause-few_decided : goal.of-requires-clause-few_decided
of-requires-clause-few_decided c = few_decided (whole c.args.ground.now.typed.model) c.args.ground.now.unfolded.passes c.decisions.result.now c.decisions.ensures.decisions

pub report_of-requires : goal.report_of-requires
report_of-requires c =
    let goal_is : c.model.result.now.goal ≡ c.args.ground.now.typed.model.goal = search rules in
    record {
      tried = may_try _ c.args.ground.now.typed.model
          (posed_is _ _ _ _ _ _ _ c.args.ground.now.typed.model c.table.ensures.known (c.in_ok-variables.ensures.decisions ∙ c.decisions.ensures.decisions)
          (c.in_ok-variables.ensures.stochs ∙ c.stochs.ensures.stochastics) (ap (map now_of) c.as_slice.ensures.value ∙ c.in_ok-conditions.ensures.conditions) c.hards.ensures.hards
          c.chances.ensures.chances goal_is) c.args.ground.now.typed.origin c.args.ground.now.typed.typed c.args.ground.now.unfolded.passes c.requires.laid_out c.requires.within
          c.requires.allowed
          (subst (IsPoint (cells (ground_problem c.args.ground.now))) (sym c.values.ensures.values) c.requires.policy.point);
    }

pub returns : goal.returns
returns c =
    let goal_is : c.model.result.now.goal ≡ c.args.ground.now.typed.model.goal = search rules in
    record {
      report = report_either c.report_of.result _ _ _ _ c.values.ensures.values
          (posed_is _ _ _ _ _ _ _ c.args.ground.now.typed.model c.table.ensures.known (c.in_ok-variables.ensures.decisions ∙ c.decisions.ensures.decisions)
          (c.in_ok-variables.ensures.stochs ∙ c.stochs.ensures.stochastics) (ap (map now_of) c.as_slice.ensures.value ∙ c.in_ok-conditions.ensures.conditions) c.hards.ensures.hards
          c.chances.ensures.chances goal_is) c.report_of.ensures.told;
    }
