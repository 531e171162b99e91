use Rattle.term_program.specs.Programs.{problem_in, root_in}
use Rattle.prop_goal.specs.Goals.{ArePartial}
use Rattle.prop_goal.proofs.goals.partial_scenarios.Given as goal

abbrev pub invariant-scenarios : goal.invariant-scenarios
invariant-scenarios l = ArePartial (root_in l.program) (problem_in l.program) l.scenario l.list.items
