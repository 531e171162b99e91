use Rattle.std.proofs.Common.{◌≡◌, ◌+ℤ◌, drop}
use Rattle.term_program.specs.Programs.{problem_in, root_in, with_interval}
use Rattle.prop_shave.specs.Sums.{sum_over, turn_of}
use Rattle.prop_shave.specs.ChanceSums.{weight_over}
use Rattle.prop_shave.proofs.chance_delta.ChanceDelta.left_with.Given as goal

abbrev pub invariant-scenarios : goal.invariant-scenarios
invariant-scenarios l =
    (l.left.value
    +ℤ sum_over (turn_of (weight_over (root_in l.program) (problem_in l.program) l.self.instance l.store.box)
    (weight_over (root_in l.program) (problem_in l.program) l.self.instance (with_interval l.store.box l.self.cell l.part.lo l.part.hi))) (drop l.scenario-index l.self.scenarios.now))
    ≡ (l.self.left.value
    +ℤ sum_over (turn_of (weight_over (root_in l.program) (problem_in l.program) l.self.instance l.store.box)
    (weight_over (root_in l.program) (problem_in l.program) l.self.instance (with_interval l.store.box l.self.cell l.part.lo l.part.hi))) l.self.scenarios.now)
