-- Pairs of the program, as bindings.
use Rattle.std.specs.Prelude.{ℕ, ℤ, List}
use Rattle.sopl_ast.specs.Instances.{Binding}

-- a name and what a binder gives it
abbrev pub binding_of : List ℕ × ℤ → Binding
binding_of pair = record { name = pair.0; value = pair.1 }
