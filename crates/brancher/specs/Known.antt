-- The branchers that the program knows, by their names.
use Rattle.std.specs.Prelude.{ℕ, List, [], ◌∷◌, codes}

-- their names in order: a search that is given no name asks the first one
abbrev pub known_names : List (List ℕ)
known_names = codes "lower" ∷ codes "widest" ∷ codes "failing" ∷ []
