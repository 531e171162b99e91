use Rattle.std.proofs.Common.{◌+ℤ◌, drop}
use Rattle.box_problem.specs.Box.{Box, Inside}
use Rattle.term_problem.specs.Problems.{direction_in}
use Rattle.term_program.specs.Programs.{problem_in}
use Rattle.prop_shave.specs.GoalSums.{IsAsGood, part_at}
use Rattle.prop_shave.specs.Sums.{sum_over, turn_of}
use Rattle.prop_shave.proofs.probes.Probe.worst_end.Given as goal

abbrev pub invariant-parts : goal.invariant-parts
invariant-parts l =
    (c : Box) → Inside c l.self.store.now.box → IsAsGood (direction_in (problem_in l.self.program.now))
    (l.counted.end.value
    +ℤ sum_over (turn_of (part_at l.self.program.now l.counted.atoms.now l.self.store.now.box) (part_at l.self.program.now l.counted.atoms.now c)) l.counted.numbers.now)
    (l.end.value
    +ℤ sum_over (turn_of (part_at l.self.program.now l.counted.atoms.now l.self.store.now.box) (part_at l.self.program.now l.counted.atoms.now c)) (drop l.number-index l.counted.numbers.now))
