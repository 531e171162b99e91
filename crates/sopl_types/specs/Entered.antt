-- What the tables of names hold, as the names that are known at a place.
use Rattle.std.specs.Prelude.{ℕ, List, [], ◌∷◌}
use Rattle.std.specs.declared.alloc.Global.{Global}
use Rattle.std.specs.declared.vec.Vec.{Vec}
use Rattle.sopl_ast.specs.Mistakes as m
use Rattle.sopl_ast.specs.Mistakes.{Scope, no_names, with_entity}
use Rattle.sopl_types.specs.declared.names.NameKind.{NameKind}
use Rattle.sopl_types.specs.declared.names.NameKind.TheVariants.{Constant, Variable, RangeName, SetName}
use Rattle.sopl_types.specs.declared.names.Declared.{Declared}

-- what a name stands for
abbrev pub seen : NameKind → m.Entity
seen (Constant dims) = m.Constant dims
seen (Variable dims) = m.Variable dims
seen RangeName = m.RangeName
seen SetName = m.SetName

-- the entries of a table, as names
abbrev pub entered : List (Vec ℕ Global × NameKind) → Scope
entered [] = no_names
entered (e ∷ es) = with_entity e.0.items (seen e.1) (entered es)

-- bound names, behind those that were known
abbrev pub bound_over : List (List ℕ) → Scope → Scope
bound_over [] scope = scope
bound_over (name ∷ names) scope = bound_over names (with_entity name (m.Constant 0) scope)

-- the declared names
abbrev pub declared_in : Declared → Scope
declared_in declared = entered declared.entries.entries
