use Rattle.std.proofs.Common.{◌≡◌, ◌+ℤ◌, drop}
use Rattle.term_program.specs.Programs.{with_interval}
use Rattle.prop_shave.specs.GoalSums.{part_at}
use Rattle.prop_shave.specs.Sums.{sum_over, turn_of}
use Rattle.prop_shave.proofs.goal_delta.GoalDelta.end_with.Given as goal

abbrev pub invariant-parts : goal.invariant-parts
invariant-parts l =
    (l.end.value
    +ℤ sum_over (turn_of (part_at l.program l.self.atoms.now l.store.box) (part_at l.program l.self.atoms.now (with_interval l.store.box l.self.cell l.part.lo l.part.hi)))
    (drop l.number-index l.self.numbers.now))
    ≡ (l.self.end.value
    +ℤ sum_over (turn_of (part_at l.program l.self.atoms.now l.store.box) (part_at l.program l.self.atoms.now (with_interval l.store.box l.self.cell l.part.lo l.part.hi))) l.self.numbers.now)
