-- Numbers of term nodes as the program keeps them.
use Rattle.std.specs.Prelude.{ℕ, ◌-◌, ◌^◌, ℤ, pos, min, List, slice_get}
use Rattle.std.specs.Option.{option_map_or}
use Rattle.sopl_ast.specs.Tree.{Tree}
use Rattle.sopl_ast.specs.Known.{Binding, Known}
use Rattle.sopl_ast.specs.TermNodes.{nodes}
use Rattle.unfold_laws.specs.Conditions.{placed}

-- a number past 2^127 - 1 is kept as that
unfoldable pub capped : ℕ → ℤ
capped n = pos (min n (2 ^ 127 - 1))

-- the nodes of the condition with this number, where binders give this
abbrev pub nodes_at : Known → List Tree → ℕ → List Binding → ℕ
nodes_at known conditions text bound = option_map_or (nodes (placed known bound)) (slice_get conditions text) 0
