use Rattle.std.proofs.Common.{◌∙◌, ap}
use Rattle.sopl_base.specs.declared.direction.Direction.{Direction}
use Rattle.term_program.specs.Programs.{no_better, problem_in, root_in, with_interval}
use Rattle.term_program.proofs.Ending.{closes_by}
use Rattle.prop_shave.proofs.goal_delta.GoalDelta.closes_with.Goals as goal

pub returns : goal.returns
returns c = record {
  closed = closes_by (root_in c.args.program.now) (with_interval c.args.store.now.box c.args.self.now.cell c.args.part.lo c.args.part.hi) (problem_in c.args.program.now) c.in_ok-end.end.value
      c.args.best.value c.is_no_better.result c.in_ok-end.ensures
      (c.is_no_better.ensures ∙ ap (λ (d : Direction). no_better d c.in_ok-end.end.value c.args.best.value) c.direction.ensures);
}
