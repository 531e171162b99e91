use Rattle.std.proofs.Common.{◌≡◌, ◌++◌, ℕ, List, map, drop}
use Rattle.sopl_ast.specs.References.{now_of}
use Rattle.compile_names.specs.Grouped.{numbers_in, numbers_of}
use Rattle.compile_names.proofs.names.Names.of.Given as goal

abbrev pub invariant-names : goal.invariant-names
invariant-names l =
    (other : List ℕ) → numbers_in l.grouped other ++ numbers_of other l.number (map now_of (drop l.number l.names)) ≡ numbers_of other 0 (map now_of l.names)
