use Rattle.std.proofs.Common.{take, All}
use Rattle.log_rows.specs.Ranges.{StepFits}
use Rattle.log_tree.proofs.written.steps_fit.Given as goal

abbrev pub invariant-steps : goal.invariant-steps
invariant-steps l = All StepFits (take l.step-index l.steps)
