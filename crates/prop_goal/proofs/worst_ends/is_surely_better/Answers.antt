use Rattle.std.proofs.Common.{◌∙◌, IfSome, ap, sym, subst}
use Rattle.sopl_base.proofs.Booleans.{not_true}
use Rattle.sopl_base.specs.declared.direction.Direction.{Direction}
use Rattle.term_problem.specs.Problems.{direction_in}
use Rattle.term_program.specs.Programs.{no_better, problem_in, root_in, things_in}
use Rattle.prop_shave.proofs.Reaching.{still_better}
use Rattle.prop_shave.specs.GoalSums.{IsAsGood, part_over}
use Rattle.prop_goal.proofs.worst_ends.is_surely_better.Goals as goal

pub returns-in-Some : goal.returns-in-Some
returns-in-Some c = record {
  better = λ b part a are within is.
      let program = c.args.program.now in
      let mine = direction_in (problem_in program) in
      let end = part_over mine (root_in program) (things_in program) part a in
      still_better mine end c.in-Some.worse.value c.args.best.value
      (subst (λ o. IfSome o (λ w. IsAsGood mine end w.value)) c.in-Some.is (are.worse part within))
      (ap (λ (d : Direction). no_better d c.in-Some.worse.value c.args.best.value) (sym c.direction.ensures) ∙ sym c.is_no_better.ensures ∙ not_true c.is_no_better.result is);
}
