-- The room that is wanted for the search of crowds.
use Rattle.std.specs.Prelude.{ℕ}
use Rattle.prop_alldiff.specs.declared.crowds.Crowds as own

-- none
abbrev pub any_room : own.Crowds → ℕ → Type 0
any_room question count = Unit {0}
