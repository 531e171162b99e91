use Rattle.std.proofs.Common.{◌≤◌, arith, length, rules}
use Rattle.term_program.specs.Programs.{problem_in}
use Rattle.prop_goal.proofs.Worst.{terms_to}
use Rattle.prop_goal.proofs.scenario_terms.scenario_terms.Goals as goal

pub scenarios-preserved : goal.scenarios-preserved
scenarios-preserved c = c.in_ok-put_term.ensures

pub returns : goal.returns
returns c =
    let within : c.scenarios.scenario ≤ length (problem_in c.args.program.now).weights = search rules in
    terms_to c.args.program.now (length (problem_in c.args.program.now).weights) c.scenarios.scenario c.scenarios.atoms.items (omega (arith, c.scenarios-test.false, c.scenarios-scenario-end.ensures)) within
    c.scenarios.invariant
