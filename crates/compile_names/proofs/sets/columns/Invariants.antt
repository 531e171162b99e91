use Rattle.std.proofs.Common.{◌≡◌, map}
use Rattle.std.specs.List.{range_with_len}
use Rattle.sopl_ast.specs.References.{now_of}
use Rattle.term_math.specs.Kept as kept
use Rattle.compile_names.specs.Kept.{column}
use Rattle.compile_names.proofs.sets.columns.Given as goal

abbrev pub invariant-places : goal.invariant-places
invariant-places l = kept.sets_of l.sets.items ≡ map (column (map now_of l.given)) (range_with_len 0 l.place)
