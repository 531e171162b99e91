use Rattle.std.proofs.Common.{◌≡◌, ◌++◌, drop}
use Rattle.term_math.specs.Kept.{sets_of}
use Rattle.compile_scene.proofs.tables.copied.Given as goal

abbrev pub invariant-sets : goal.invariant-sets
invariant-sets l = sets_of l.list.items ++ sets_of (drop l.set-index l.sets) ≡ sets_of l.sets
