use Rattle.std.proofs.Common.{◌∙◌, ℤ, ap, sym}
use Rattle.sopl_base.proofs.Booleans.{not_true}
use Rattle.sopl_base.specs.declared.direction.Direction.{Direction}
use Rattle.term_problem.specs.Problems.{direction_in}
use Rattle.term_program.specs.Programs.{no_better, problem_in}
use Rattle.prop_shave.proofs.goal_delta.is_better_with.Goals as goal

pub returns-in-Some : goal.returns-in-Some
returns-in-Some c = λ better.
    ap (λ (z : ℤ). no_better (direction_in (problem_in c.args.program.now)) z c.args.best.value) (sym c.in-Some.ensures.sum)
    ∙ ap (λ (d : Direction). no_better d c.in-Some.sum.value c.args.best.value) (sym c.direction.ensures)
    ∙ sym c.is_no_better.ensures
    ∙ not_true c.is_no_better.result better
