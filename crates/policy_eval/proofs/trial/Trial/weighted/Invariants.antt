use Rattle.policy_eval.proofs.TrialSteps.{IsWeighed}
use Rattle.policy_eval.proofs.trial.Trial.weighted.Given as goal

abbrev pub invariant-scenarios : goal.invariant-scenarios
invariant-scenarios l = IsWeighed l.self.tree.now.weights l.numbers l.sum.value l.scenario
