use Rattle.std.proofs.Common.{◌≡◌, ◌+◌, ◌≤◌, take}
use Rattle.box_problem.specs.Box.{Inside}
use Rattle.box_problem.specs.Rightness.{AllRight}
use Rattle.box_problem.specs.Steps.{after_steps}
use Rattle.term_program.specs.Stated.{box_problem_of}
use Rattle.log_check.specs.KeptSums.{KeepsSums}
use Rattle.log_check.proofs.steps.first_bad.Given as goal

abbrev pub invariant-steps : goal.invariant-steps
invariant-steps l = record {
  leads : l.store.box ≡ after_steps l.initial.store.box (take l.at l.steps);
  right : AllRight (box_problem_of l.program) l.best l.initial.store.box (take l.at l.steps);
  inside : Inside l.store.box (box_problem_of l.program).root;
  marks : l.store.marks ≡ l.initial.store.marks;
  room : l.initial.store.spare ≤ l.store.spare + l.at;
  in_step : KeepsSums l.program l.store.box l.sums;
}
