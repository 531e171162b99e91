use Rattle.std.proofs.Common.{◌≡◌, ◌<◌, ℕ, false}
use Rattle.term_problem.specs.Problems.{direction_in}
use Rattle.term_program.specs.Programs.{no_better, problem_in}
use Rattle.prop_shave.specs.GoalSums.{part_at}
use Rattle.prop_goal.proofs.kept_worst.KeptWorst.is_beaten_by.Given as goal

abbrev pub invariant-scenarios : goal.invariant-scenarios
invariant-scenarios l =
    (k : ℕ) → k < l.number
    → no_better (direction_in (problem_in l.probe.program.now)) (part_at l.probe.program.now l.self.parts.atoms.items l.probe.store.now.box k) l.best.value ≡ false
