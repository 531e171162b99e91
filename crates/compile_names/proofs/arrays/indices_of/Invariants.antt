use Rattle.std.proofs.Common.{◌≡◌, ◌++◌, map, drop}
use Rattle.sopl_ast.specs.References.{now_of}
use Rattle.compile_names.specs.Tables.{index_shown}
use Rattle.compile_names.proofs.arrays.indices_of.Given as goal

abbrev pub invariant-sources : goal.invariant-sources
invariant-sources l = map now_of l.indices.items ++ map index_shown (drop l.source-index l.sources) ≡ map index_shown l.sources
