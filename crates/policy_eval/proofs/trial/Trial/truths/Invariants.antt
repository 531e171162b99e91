use Rattle.std.proofs.Common.{◌≡◌, map}
use Rattle.std.specs.List.{range_with_len}
use Rattle.sopl_ast.specs.Numbers.{one_or_zero}
use Rattle.unfold_constants.specs.Here.{known_in}
use Rattle.policy_eval.specs.Tried.{truth_at}
use Rattle.policy_eval.proofs.trial.Trial.truths.Given as goal

abbrev pub invariant-scenarios : goal.invariant-scenarios
invariant-scenarios l = l.truths.items ≡ map (λ i. one_or_zero (truth_at l.self (known_in l.known) l.condition i)) (range_with_len 0 l.scenario)
