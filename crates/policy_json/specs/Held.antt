-- A policy as nested JSON of the values that it holds, and of no other: there is none where some decision of a node has no value.
use Rattle.std.specs.Prelude.{ℕ, ◌+◌, ◌-◌, zero, suc, ℤ, List, [], ◌++◌, Option, option_map}
use Rattle.std.specs.List.{enumerate_from}
use Rattle.std.specs.FinMap.{get}
use Rattle.serde_json.specs.Data.{Data}
use Rattle.sopl_ast.specs.Instances.{Decision, Stochastic, Problem}
use Rattle.sopl_ast.specs.Policies.{Policy}
use Rattle.sopl_ast.specs.Numbers.{all_of, both_of}
use Rattle.policy_json.specs.Entries.{entry_of}
use Rattle.policy_json.specs.LastStage.{last_stage}
use Rattle.policy_json.specs.Nodes.{branch_at, node_of, numbered_in_stage, stage_outcomes}

-- the entry of a decision, with its number, at a history, where the policy holds a value for it
abbrev pub held_entry : Policy → List ℤ → ℕ × Decision → Option Data
held_entry policy seen (place, d) = option_map (entry_of d.name d.index) (get policy (place, seen))

-- the entries of a stage's decisions at a history, where the policy holds a value for each
abbrev pub held_decide : List Decision → Policy → ℕ → List ℤ → Option (List Data)
held_decide decisions policy stage seen =
    all_of (held_entry policy seen) (numbered_in_stage stage (enumerate_from 0 decisions))

-- the node of a stage and a history, where so many stages come after it, and where the policy holds all values of it and of those after it
abbrev pub held_node_at : List Decision → List Stochastic → Policy → (later : ℕ) → (stage : ℕ) → (seen : List ℤ) → Option Data
held_node_at decisions stochastics policy zero stage seen =
    option_map (λ decide. node_of decide []) (held_decide decisions policy stage seen)
held_node_at decisions stochastics policy (suc later) stage seen =
    both_of node_of (held_decide decisions policy stage seen)
    (all_of (λ values. option_map (branch_at stage stochastics values) (held_node_at decisions stochastics policy later (stage + 1) (seen ++ values)))
    (stage_outcomes stage stochastics))

-- the outermost node, where the policy holds all values
abbrev pub held_outermost : List Decision → List Stochastic → Policy → Option Data
held_outermost decisions stochastics policy = held_node_at decisions stochastics policy (last_stage decisions - 1) 1 []

-- a policy of a problem as nested JSON, where it holds all values
abbrev pub held_data : Problem → Policy → Option Data
held_data problem policy = held_outermost problem.decisions problem.stochastics policy
