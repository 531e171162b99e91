use Rattle.std.proofs.Common.{◌∙◌, arith}
use Rattle.std.proofs.lemmas.List.{get_or_default}
use Rattle.term_program.specs.Stated.{box_problem_of}
use Rattle.log_check.proofs.Stepping.{cut_there, inside_more, leads_more, right_more, step_moved}
use Rattle.log_check.proofs.steps.first_bad.Goals as goal

pub apply-requires-clause-cut : goal.apply-requires-clause-cut
apply-requires-clause-cut c =
    cut_there (box_problem_of c.args.program.now) c.args.best c.steps.store.box c.is_right.new.store.box _ c.is_right.result c.is_right.ensures.same_box c.is_right.ensures.right
    c.if-not-is_right.false

pub steps-preserved : goal.steps-preserved
steps-preserved c =
    let goes = step_moved (box_problem_of c.args.program.now) c.args.best c.steps.store.box c.is_right.new.store.box c.apply.new.store.box _ c.is_right.result c.is_right.ensures.right c.is_right.ensures.same_box c.apply.ensures.narrowed in
    record {
      leads = leads_more (box_problem_of c.args.program.now) c.args.best c.args.store.now.box c.steps.store.box c.args.steps.now c.steps.at _ c.steps-test.true
          (get_or_default c.args.steps.now c.steps.at _ _ c.steps-test.true) c.steps.invariant.leads c.apply.new.store.box goes;
      right = right_more (box_problem_of c.args.program.now) c.args.best c.args.store.now.box c.steps.store.box c.args.steps.now c.steps.at _ c.steps-test.true
          (get_or_default c.args.steps.now c.steps.at _ _ c.steps-test.true) c.steps.invariant.leads c.is_right.result c.is_right.ensures.right c.if-not-is_right.false
          c.steps.invariant.right;
      inside = inside_more (box_problem_of c.args.program.now) c.args.best c.steps.store.box _ c.is_right.result c.apply.new.store.box c.is_right.ensures.right c.if-not-is_right.false
          c.steps.invariant.inside goes;
      marks = c.apply.ensures.marks ∙ (c.is_right.ensures.marks ∙ c.steps.invariant.marks);
      room = omega (arith, c.steps.invariant.room, c.is_right.ensures.spare, c.apply.ensures.spare);
      in_step = c.apply.ensures.follow c.args.program.now c.is_right.ensures.in_step;
    }
