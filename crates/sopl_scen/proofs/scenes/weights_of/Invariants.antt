use Rattle.std.proofs.Common.{◌≡◌, map, take}
use Rattle.sopl_scen.specs.Levels.{weight_in}
use Rattle.sopl_scen.proofs.scenes.weights_of.Given as goal

abbrev pub invariant-level : goal.invariant-level
invariant-level l = l.weights.items ≡ map weight_in (take l.node-index l.level)
