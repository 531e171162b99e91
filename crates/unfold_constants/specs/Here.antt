-- What is known at a place.
use Rattle.std.specs.Prelude.{ℕ, ◌-◌, ℤ, List, [], ◌∷◌, length, take}
use Rattle.std.specs.Borrow.{Bor}
use Rattle.unfold_constants.specs.declared.constant_scope.ConstantScope as declared
use Rattle.unfold_tables.specs.Tables.{items, table_known}
use Rattle.sopl_ast.specs.Known.{Binding, Known}

-- bound names with their values
abbrev pub bindings_in : List (Bor (List ℕ) × ℤ) → List Binding
bindings_in [] = []
bindings_in (first ∷ later) = (record { name = first.0.now; value = first.1 }) ∷ bindings_in later

-- what is known at a place
abbrev pub known_in : declared.ConstantScope → Known
known_in place = record (table_known place.table.now) { bound = bindings_in (items place.bound) }

-- what is known without the value that was given last
abbrev pub without_last : Known → Known
without_last known = record known { bound = take (length known.bound - 1) known.bound }
