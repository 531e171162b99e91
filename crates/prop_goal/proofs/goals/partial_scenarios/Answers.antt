use Rattle.std.proofs.Common.{◌≤◌, arith, length, rules}
use Rattle.term_program.specs.Programs.{problem_in, root_in}
use Rattle.prop_goal.proofs.Defined.{partial_all, partial_more}
use Rattle.prop_goal.proofs.goals.partial_scenarios.Goals as goal

pub scenarios-preserved : goal.scenarios-preserved
scenarios-preserved c =
    partial_more (root_in c.args.program.now) (problem_in c.args.program.now) c.scenarios.scenario c.scenarios.list.items c.put_partial.new.list.items c.is_defined-defined.result
    c.scenarios.invariant c.is_defined-defined.ensures.defined c.in_ok-put_partial.ensures

pub returns : goal.returns
returns c =
    let within : c.scenarios.scenario ≤ length (problem_in c.args.program.now).weights = search rules in
    record {
      partial = partial_all (root_in c.args.program.now) (problem_in c.args.program.now) (length (problem_in c.args.program.now).weights) c.scenarios.scenario c.scenarios.list.items
          (omega (arith, c.scenarios-test.false, c.scenarios-scenario-end.ensures)) within c.scenarios.invariant;
    }
