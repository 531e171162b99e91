-- The names that are known at a place: those of the lists around it, the outermost first, behind the declared ones.
use Rattle.std.specs.Prelude.{map}
use Rattle.sopl_ast.specs.Mistakes.{Scope}
use Rattle.sopl_types.specs.declared.names.Names.{Names}
use Rattle.sopl_types.specs.declared.names.Outer.{Outer, Top, Inside'}
use Rattle.sopl_types.specs.Entered.{bound_over, declared_in}

-- the names that are known around a list
abbrev pub known_outside : Outer → Scope
known_outside (Top declared) = declared_in declared.now
known_outside (Inside' bound at outer) = bound_over (map (λ name. name.now) bound.now.names.items) (known_outside outer)

-- those, and the names of the list
abbrev pub known_in : Names → Scope
known_in names = bound_over (map (λ name. name.now) names.bound.names.items) (known_outside names.outer)
