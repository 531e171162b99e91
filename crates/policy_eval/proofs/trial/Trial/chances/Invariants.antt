use Rattle.policy_eval.proofs.Trials.{IsSofar}
use Rattle.policy_eval.proofs.trial.Trial.chances.Given as goal

abbrev pub invariant-chances : goal.invariant-chances
invariant-chances l = IsSofar l.self l.instance l.sums.items
