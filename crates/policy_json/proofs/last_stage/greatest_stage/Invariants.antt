use Rattle.std.proofs.Common.{◌≡◌, ◌≤◌, take}
use Rattle.policy_json.specs.LastStage.{last_stage}
use Rattle.policy_json.proofs.last_stage.greatest_stage.Given as goal

abbrev pub invariant-decisions : goal.invariant-decisions
invariant-decisions l = record {
  so_far : l.last ≡ last_stage (take l.decision-index l.decisions);
  from : 1 ≤ l.last;
}
