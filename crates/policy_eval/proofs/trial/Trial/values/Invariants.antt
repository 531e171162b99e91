use Rattle.std.proofs.Common.{◌≡◌, map}
use Rattle.std.specs.List.{range_with_len}
use Rattle.unfold_tables.specs.Tables.{table_known}
use Rattle.policy_eval.specs.Tried.{value_at}
use Rattle.policy_eval.proofs.TrialSteps.{there_all}
use Rattle.policy_eval.proofs.trial.Trial.values.Given as goal

abbrev pub invariant-scenarios : goal.invariant-scenarios
invariant-scenarios l = map (value_at l.self (table_known l.self.table.now) l.e) (range_with_len 0 l.scenario) ≡ there_all l.values.items
