use Rattle.std.proofs.Common.{◌≡◌}
use Rattle.std.specs.List.{filter, range_with_len}
use Rattle.term_program.specs.Programs.{problem_in, root_in}
use Rattle.prop_shave.specs.ChanceSums.{is_touched}
use Rattle.prop_shave.proofs.touched_scenarios.scenarios_touching.Given as goal

abbrev pub invariant-scenarios : goal.invariant-scenarios
invariant-scenarios l =
    l.numbers.items ≡ filter (is_touched (root_in l.program) (problem_in l.program) l.instance l.cell) (range_with_len 0 l.scenario)
