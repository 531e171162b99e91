-- What is shown of a tree, by its look-ups, and the text of a list, item by item. These steps are the code's own.
use Rattle.std.specs.Prelude.{ℕ, ◌+◌, pos, List, [], ◌∷◌, ◌++◌, Bool, true, map, codes}
use Rattle.std.specs.List.{range_with_len}
use Rattle.serde_json.specs.Data.{Data}
use Rattle.serde_json.specs.Written.{comma_if, compact_text}
use Rattle.sopl_ast.specs.Instances.{Stochastic}
use Rattle.sopl_scen.specs.Layout.{Layout, count_in, histories_in, value_in, weight_in}
use Rattle.policy_json.specs.Entries.{entry_of, list_of, whole_number}
use Rattle.answer_lines.specs.Answer.{digits, scenario_object}

-- the entries of the stochastic variables from the one with this number on
abbrev pub entries_from : Layout → ℕ → ℕ → List Stochastic → List Data
entries_from tree scenario j [] = []
entries_from tree scenario j (s ∷ later) = entry_of s.name s.index (value_in tree j scenario) ∷ entries_from tree scenario (j + 1) later

-- a scenario
abbrev pub shown : List Stochastic → Layout → ℕ → Data
shown stochastics tree scenario = scenario_object (entries_from tree scenario 0 stochastics) (weight_in tree scenario)

-- how many histories a stage has
abbrev pub count_shown : Layout → ℕ → Data
count_shown tree stage = whole_number (pos (histories_in tree stage))

abbrev pub counts_shown : Layout → ℕ → List Data
counts_shown tree last = map (count_shown tree) (range_with_len 1 last)

-- so many scenarios, from the first on
abbrev pub all_shown : List Stochastic → Layout → ℕ → List Data
all_shown stochastics tree count = map (shown stochastics tree) (range_with_len 0 count)

-- the texts of items, with commas between them, and with one before them where something stands there
abbrev pub pieces : Bool → List Data → List ℕ
pieces later [] = []
pieces later (d ∷ ds) = comma_if later ++ (compact_text d ++ pieces true ds)

-- the text of the answer before its scenarios
abbrev pub prefix_of : Layout → ℕ → List ℕ
prefix_of tree last =
    codes "{\"answer\":\"tree\",\"den\":" ++ (compact_text (digits tree.total)
    ++ (codes ",\"histories\":" ++ (compact_text (list_of (counts_shown tree last)) ++ codes ",\"scenarios\":[")))
