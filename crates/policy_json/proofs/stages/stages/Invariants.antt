use Rattle.std.proofs.Common.{◌≡◌, ◌-◌, map}
use Rattle.std.specs.List.{range_with_len}
use Rattle.policy_json.specs.Stages.{stage_in}
use Rattle.policy_json.proofs.stages.stages.Given as goal

abbrev pub invariant-stages : goal.invariant-stages
invariant-stages l = l.found.items ≡ map (stage_in l.decisions l.stochs) (range_with_len 1 (l.stage - 1))
