use Rattle.std.proofs.Common.{◌≡◌, ◌-◌, map}
use Rattle.std.specs.List.{range_with_len}
use Rattle.sopl_scen.specs.Stages.{stage_in}
use Rattle.sopl_scen.proofs.stages.stages.Given as goal

abbrev pub invariant-stages : goal.invariant-stages
invariant-stages l = l.found.items ≡ map (stage_in l.stochs) (range_with_len 1 (l.stage - 1))
