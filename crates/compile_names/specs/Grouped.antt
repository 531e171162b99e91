-- The numbers of what has a name.
use Rattle.std.specs.Prelude.{ℕ, zero, suc, ◌+◌, ◌≡◌, List, [], ◌∷◌, ◌++◌, map, if◌then◌else◌}
use Rattle.std.specs.Map.{lookup}
use Rattle.std.specs.Option.{unwrap_or}
use Rattle.std.specs.Str.{bytes_eq}
use Rattle.std.specs.declared.alloc.Global.{Global}
use Rattle.std.specs.declared.vec.Vec.{Vec}
use Rattle.compile_names.specs.declared.names.Names.{Names}

-- the numbers of those of these names that are the given one, in order; so many stand before them
abbrev pub numbers_of : List ℕ → ℕ → List (List ℕ) → List ℕ
numbers_of name before [] = []
numbers_of name before (other ∷ later) =
    if bytes_eq name other then before ∷ numbers_of name (before + 1) later else numbers_of name (before + 1) later

-- a name and its numbers
abbrev pub Group : Type 0
Group = List ℕ × List ℕ

-- the names that are kept, each with its numbers
abbrev pub group_of : Vec ℕ Global × Vec ℕ Global → Group
group_of e = (e.0.items, e.1.items)

abbrev pub groups_in : Names → List Group
groups_in names = map group_of names.groups.entries

-- the numbers that are kept of a name
abbrev pub numbers_in : Names → List ℕ → List ℕ
numbers_in names name = unwrap_or (lookup (bytes_eq name) (groups_in names)) []

-- of each name the numbers among these names are kept
abbrev pub IsGrouped : Names → List (List ℕ) → Type 0
IsGrouped names all = (name : List ℕ) → numbers_in names name ≡ numbers_of name 0 all

-- one number more of the name at a place
abbrev pub with_number : ℕ → ℕ → List Group → List Group
with_number place number [] = []
with_number zero number (g ∷ later) = (g.0, g.1 ++ number ∷ []) ∷ later
with_number (suc place) number (g ∷ later) = g ∷ with_number place number later
