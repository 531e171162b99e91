use Rattle.std.proofs.Common.{List, ℕ, length, subst, sym}
use Rattle.sopl_base.specs.declared.reason.Reason.TheVariants.{Bound}
use Rattle.prop_shave.specs.Probes.{HasAll}
use Rattle.term_problem.specs.Reasons.{reason_mentions}
use Rattle.term_program.specs.Programs.{problem_in, root_in}
use Rattle.prop_goal.specs.Cells.{ArePartsWithin, goal_mentions, parts_mention}
use Rattle.prop_goal.proofs.Objectives.{goal_only}
use Rattle.prop_goal.proofs.goal_cells.goal_cells.Goals as goal

pub returns : goal.returns
returns c = record {
  all = subst (λ (cells : List ℕ). HasAll cells (reason_mentions (root_in c.args.program.now) (problem_in c.args.program.now) Bound)) (sym c.in_ok-list.ensures.keys)
      (λ cell here. c.in_ok-put_parts.ensures.kept cell (c.in_ok-put_scenarios.ensures.all cell here));
  within = subst (ArePartsWithin c.args.program.now c.args.atoms.now (length c.args.atoms.now)) (sym c.in_ok-list.ensures.keys) c.in_ok-put_parts.ensures.within;
  only = subst (HasAll (goal_mentions c.args.program.now c.args.atoms.now)) (sym c.in_ok-list.ensures.keys)
      (goal_only (reason_mentions (root_in c.args.program.now) (problem_in c.args.program.now) Bound) (parts_mention c.args.program.now c.args.atoms.now) _ _ _ c.new-cells.ensures.empty
      c.in_ok-put_scenarios.ensures.only c.in_ok-put_parts.ensures.only);
  ascend = c.in_ok-list.ensures.ascend;
}
