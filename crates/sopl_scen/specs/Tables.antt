-- The tables of values and of nodes, as the program fills them: each scenario from its last variable to its first. These steps are the code's own.
use Rattle.std.specs.Prelude.{ℕ, zero, suc, ◌-◌, ◌<◌, ℤ, List, [], ◌∷◌, length, get_or}
use Rattle.std.specs.List.{flat_map, range_with_len}
use Rattle.sopl_scen.specs.declared.nodes.Node.{Node}
use Rattle.sopl_scen.specs.Levels.{root}

-- a node of a level
abbrev pub node_at : List (List Node) → ℕ → ℕ → Node
node_at levels level number = get_or (get_or levels level []) number root

-- the values of the scenario of a node, from the last variable to the first
abbrev pub row_up : List (List Node) → ℕ → ℕ → List ℤ
row_up levels zero number = []
row_up levels (suc level) number =
    (node_at levels (suc level) number).value ∷ row_up levels level (node_at levels (suc level) number).parent

-- the numbers of a node and of those above it, up to the one of no variable
abbrev pub path_up : List (List Node) → ℕ → ℕ → List ℕ
path_up levels zero number = number ∷ []
path_up levels (suc level) number = number ∷ path_up levels level (node_at levels (suc level) number).parent

-- the parents of nodes are nodes
abbrev pub IsLinked : List (List Node) → Type 0
IsLinked levels =
    (level number : ℕ) → suc level < length levels → number < length (get_or levels (suc level) [])
    → (node_at levels (suc level) number).parent < length (get_or levels level [])

-- the last level
abbrev pub last_level : List (List Node) → ℕ
last_level levels = length levels - 1

-- the rows of so many scenarios, and their paths
abbrev pub all_rows : List (List Node) → ℕ → List ℤ
all_rows levels count = flat_map (row_up levels (last_level levels)) (range_with_len 0 count)

abbrev pub all_paths : List (List Node) → ℕ → List ℕ
all_paths levels count = flat_map (path_up levels (last_level levels)) (range_with_len 0 count)
