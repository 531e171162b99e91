use Rattle.sopl_search.proofs.Known.{FitBelow}
use Rattle.sopl_search.proofs.fitting.steps_fit.Given as goal

abbrev pub invariant-steps : goal.invariant-steps
invariant-steps l = FitBelow l.steps l.step-index
