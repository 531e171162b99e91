-- An instance with its value, as JSON.
use Rattle.std.specs.Prelude.{ℕ, ℤ, List, [], ◌∷◌, map}
use Rattle.std.specs.List.{zip}
use Rattle.serde_json.specs.Data.{Data, number, string, array}
use Rattle.serde_json.specs.View.{items_of}
use Rattle.serde_json.specs.Find.{of_integer}
use Rattle.sopl_ast.specs.Instances.{Stochastic}

-- a whole number
abbrev pub whole_number : ℤ → Data
whole_number z = number (of_integer z)

-- a list of data
abbrev pub list_of : List Data → Data
list_of items = array (items_of items)

-- an instance with its value: `[name,[indices],value]`
abbrev pub entry_of : List ℕ → List ℤ → ℤ → Data
entry_of name index value = list_of (string name ∷ list_of (map whole_number index) ∷ whole_number value ∷ [])

-- an entry for each stochastic variable, with its value
abbrev pub seen_entries : List Stochastic → List ℤ → List Data
seen_entries stochastics values = map (λ (s : Stochastic × ℤ). entry_of s.0.name s.0.index s.1) (zip stochastics values)
