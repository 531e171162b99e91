-- The answer `tree`: the weight of all scenarios, how many histories each stage has up to the last stage of a decision, and the scenarios.
use Rattle.std.specs.Prelude.{ℕ, ℤ, pos, List, codes, length, map}
use Rattle.std.specs.Fmt.{signed_decimal}
use Rattle.std.specs.List.{range_with_len}
use Rattle.serde_json.specs.Data.{Data, string, object, no_members, member}
use Rattle.sopl_ast.specs.Instances.{Decision, Stochastic}
use Rattle.sopl_ast.specs.Scenarios.{Scenario, scenarios, total_weight}
use Rattle.sopl_ast.specs.Histories.{histories}
use Rattle.policy_json.specs.Entries.{list_of, seen_entries, whole_number}
use Rattle.policy_json.specs.LastStage.{last_stage}

-- a number as a text of digits
abbrev pub digits : ℤ → Data
digits z = string (signed_decimal z)

-- a scenario, by the entries of its values and its weight
abbrev pub scenario_object : List Data → ℤ → Data
scenario_object seen weight = object (member (codes "seen") (list_of seen) (member (codes "weight") (digits weight) no_members))

-- a scenario: each stochastic variable with its value, in their order, and the scenario's weight
abbrev pub scenario_data : List Stochastic → Scenario → Data
scenario_data stochastics s = scenario_object (seen_entries stochastics s.values) s.weight

-- how many histories a stage has
abbrev pub history_count : List Stochastic → ℕ → Data
history_count stochastics stage = whole_number (pos (length (histories stage stochastics)))

-- the answer, by its members
abbrev pub tree_object : ℤ → List Data → List Data → Data
tree_object weight counts listed =
    object (member (codes "answer") (string (codes "tree")) (member (codes "den") (digits weight)
    (member (codes "histories") (list_of counts) (member (codes "scenarios") (list_of listed) no_members))))

-- the answer of these decisions and stochastic variables
abbrev pub tree_data : List Decision → List Stochastic → Data
tree_data decisions stochastics =
    tree_object (total_weight stochastics) (map (history_count stochastics) (range_with_len 1 (last_stage decisions)))
    (map (scenario_data stochastics) (scenarios stochastics))
