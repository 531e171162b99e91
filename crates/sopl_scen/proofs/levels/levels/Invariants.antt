use Rattle.std.proofs.Common.{◌≡◌, ◌+◌, map}
use Rattle.std.specs.List.{range_with_len}
use Rattle.sopl_scen.specs.Levels.{level_at}
use Rattle.sopl_scen.proofs.levels.levels.Given as goal

abbrev pub invariant-stochs : goal.invariant-stochs
invariant-stochs l = l.found.items ≡ map (level_at l.stochs) (range_with_len 0 (l.i + 1))
