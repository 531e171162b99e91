use Rattle.std.proofs.Common.{◌≡◌, ◌<◌, ℕ, true}
use Rattle.unfold_constants.specs.Here.{known_in}
use Rattle.policy_eval.specs.Tried.{truth_at}
use Rattle.policy_eval.proofs.trial.Trial.first_without.Given as goal

abbrev pub invariant-scenarios : goal.invariant-scenarios
invariant-scenarios l = (i : ℕ) → i < l.scenario → truth_at l.self (known_in l.known) l.condition i ≡ true
