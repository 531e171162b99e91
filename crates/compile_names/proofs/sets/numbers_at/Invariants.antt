use Rattle.std.proofs.Common.{◌≡◌, map, drop}
use Rattle.sopl_ast.specs.References.{now_of}
use Rattle.compile_names.specs.Kept.{column}
use Rattle.compile_names.proofs.Columns.{rest}
use Rattle.compile_names.proofs.sets.numbers_at.Given as goal

abbrev pub invariant-given : goal.invariant-given
invariant-given l = rest l.place l.numbers.keys (drop l.index-index l.given) ≡ column (map now_of l.given) l.place
