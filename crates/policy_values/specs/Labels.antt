-- Variables by their names and indices.
use Rattle.std.specs.Prelude.{ℕ, ◌+◌, ℤ, pos, List, [], ◌∷◌, Option, Some, None, if◌then◌else◌}
use Rattle.sopl_ast.specs.Instances.{Decision, Stochastic}
use Rattle.sopl_ast.specs.Known.{Constant, is_at}

-- a name and an index
abbrev pub Label : Type 0
Label = List ℕ × List ℤ

abbrev pub drawn_label : Stochastic → Label
drawn_label s = (s.name, s.index)

abbrev pub decided_label : Decision → Label
decided_label d = (d.name, d.index)

-- which of these is the first that has a name and an index; so many stand before them
abbrev pub number_at : List ℕ → List ℤ → ℕ → List Label → Option ℕ
number_at name index before [] = None
number_at name index before (first ∷ later) =
    if is_at name index first.0 first.1 then Some before else number_at name index (before + 1) later

-- their numbers as constants under these names and indices
abbrev pub numbered_from : ℕ → List Label → List Constant
numbered_from before [] = []
numbered_from before (first ∷ later) =
    (record { name = first.0; index = first.1; value = pos before }) ∷ numbered_from (before + 1) later
