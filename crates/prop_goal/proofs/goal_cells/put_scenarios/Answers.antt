use Rattle.std.proofs.Common.{◌≤◌, arith, inl, length, refl, rules}
use Rattle.sopl_base.specs.declared.reason.Reason.TheVariants.{Bound, Undefined}
use Rattle.term_problem.specs.Reasons.{reason_mentions}
use Rattle.term_program.specs.Programs.{problem_in, root_in}
use Rattle.prop_goal.proofs.Objectives.{scenario_of, scenarios_all}
use Rattle.prop_goal.specs.Deciding.{lack_within}
use Rattle.prop_chance.proofs.CellSets.{only_more}
use Rattle.prop_chance.proofs.Reached.{more_in}
use Rattle.prop_goal.proofs.goal_cells.put_scenarios.Goals as goal

pub scenarios-init : goal.scenarios-init
scenarios-init c = record {
  all = λ k below. absurd (omega (arith, below));
  only = λ cell here. inl here;
}

pub scenarios-preserved : goal.scenarios-preserved
scenarios-preserved c =
    let root = root_in c.args.program.now in
    let terms = problem_in c.args.program.now in
    record {
      all = more_in (scenario_of root terms) c.scenarios.scenario c.scenarios.cells.keys c.put_scenario.new.cells.keys c.scenarios.invariant.all
          c.in_ok-put_scenario.ensures.kept c.in_ok-put_scenario.ensures.put;
      only = only_more c.args.cells.now.keys c.scenarios.cells.keys c.put_scenario.new.cells.keys (reason_mentions root terms (Undefined c.scenarios.scenario)) (reason_mentions root terms Bound)
          c.scenarios.invariant.only c.in_ok-put_scenario.ensures.only (lack_within root terms.goal c.scenarios.scenario);
    }

pub returns : goal.returns
returns c =
    let within : c.scenarios.scenario ≤ length (problem_in c.args.program.now).weights = search rules in
    record {
      all = scenarios_all (root_in c.args.program.now) (problem_in c.args.program.now) c.scenarios.scenario c.scenarios.cells.keys c.scenarios.cells.keys c.requires.made.problem
          (omega (arith, c.scenarios-test.false, c.scenarios-scenario-end.ensures)) within c.scenarios.invariant.all refl;
      only = c.scenarios.invariant.only;
    }
