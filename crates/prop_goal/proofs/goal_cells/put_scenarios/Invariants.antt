use Rattle.sopl_base.specs.declared.reason.Reason.TheVariants.{Bound}
use Rattle.prop_shave.specs.Probes.{HasOnly}
use Rattle.term_problem.specs.Reasons.{reason_mentions}
use Rattle.term_program.specs.Programs.{problem_in, root_in}
use Rattle.prop_goal.proofs.Objectives.{scenario_of}
use Rattle.prop_chance.proofs.Reached.{AreIn}
use Rattle.prop_goal.proofs.goal_cells.put_scenarios.Given as goal

abbrev pub invariant-scenarios : goal.invariant-scenarios
invariant-scenarios l = record {
  all : AreIn (scenario_of (root_in l.program) (problem_in l.program)) l.scenario l.cells.keys;
  only : HasOnly l.cells.keys l.fn.cells.keys (reason_mentions (root_in l.program) (problem_in l.program) Bound);
}
