use Rattle.std.proofs.Common.{◌≡◌, ◌≤◌, ◌<◌, ℕ}
use Rattle.sopl_scen.specs.Layout.{history_in}
use Rattle.policy_json.proofs.runs.run_end.Given as goal

abbrev pub invariant-scenarios : goal.invariant-scenarios
invariant-scenarios l =
    (l.scenario < l.later) × ((k : ℕ) → l.scenario ≤ k → k < l.later → history_in l.tree l.stage k ≡ history_in l.tree l.stage l.scenario)
