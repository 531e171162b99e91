-- A policy as nested JSON: a node for each stage and history, with what is decided there and what may be seen next.
use Rattle.std.specs.Prelude.{ℕ, ◌+◌, ◌-◌, zero, suc, ℤ, pos, List, [], ◌++◌, map, filter, codes, nat_eq, unwrap_or}
use Rattle.std.specs.List.{enumerate_from}
use Rattle.std.specs.FinMap.{get}
use Rattle.serde_json.specs.Data.{Data, object, no_members, member}
use Rattle.sopl_ast.specs.Instances.{Decision, Stochastic, Problem}
use Rattle.sopl_ast.specs.Scenarios.{Scenario, scenarios}
use Rattle.sopl_ast.specs.Policies.{Policy}
use Rattle.policy_json.specs.Entries.{entry_of, list_of, seen_entries}
use Rattle.policy_json.specs.LastStage.{last_stage}

-- what a policy decides for the decision with this number, counted from 0, at a history; 0 where it decides nothing. No node of a policy
-- of a problem that comes by stage shows that 0: this is the law `held_throughout`
abbrev pub decided_at : Policy → ℕ → List ℤ → ℤ
decided_at policy place seen = unwrap_or (get policy (place, seen)) (pos 0)

-- the entry of a decision, with its number, at a history
abbrev pub decision_entry : Policy → List ℤ → ℕ × Decision → Data
decision_entry policy seen (place, d) = entry_of d.name d.index (decided_at policy place seen)

-- the decisions of a stage, with their numbers
abbrev pub numbered_in_stage : ℕ → List (ℕ × Decision) → List (ℕ × Decision)
numbered_in_stage stage numbered = filter (λ (d : ℕ × Decision). nat_eq d.1.stage stage) numbered

-- what a policy decides at a stage and a history: an entry for each decision of the stage, in order
abbrev pub decide_of : List Decision → Policy → ℕ → List ℤ → List Data
decide_of decisions policy stage seen =
    map (decision_entry policy seen) (numbered_in_stage stage (enumerate_from 0 decisions))

-- the stochastic variables that are seen after a stage
abbrev pub seen_after : ℕ → List Stochastic → List Stochastic
seen_after stage stochastics = filter (λ (s : Stochastic). nat_eq s.stage stage) stochastics

-- the values that the stochastic variables which are seen after a stage can have together, in the order of their scenarios
abbrev pub stage_outcomes : ℕ → List Stochastic → List (List ℤ)
stage_outcomes stage stochastics = map (λ (s : Scenario). s.values) (scenarios (seen_after stage stochastics))

-- a node: what is decided, and what may be seen next
abbrev pub node_of : List Data → List Data → Data
node_of decide next = object (member (codes "decide") (list_of decide) (member (codes "next") (list_of next) no_members))

-- what may be seen next, and the node that follows
abbrev pub branch_of : List Data → Data → Data
branch_of seen then_node = object (member (codes "seen") (list_of seen) (member (codes "then") then_node no_members))

-- what is seen after a stage where its stochastic variables have these values, and the node of the next stage then
abbrev pub branch_at : ℕ → List Stochastic → List ℤ → Data → Data
branch_at stage stochastics values then_node = branch_of (seen_entries (seen_after stage stochastics) values) then_node

-- the node of a stage and a history, where so many stages come after it: each outcome of the stage's stochastic variables, in the
-- order of the scenarios, leads to a node of the next stage
abbrev pub node_at : List Decision → List Stochastic → Policy → (later : ℕ) → (stage : ℕ) → (seen : List ℤ) → Data
node_at decisions stochastics policy zero stage seen = node_of (decide_of decisions policy stage seen) []
node_at decisions stochastics policy (suc later) stage seen =
    node_of (decide_of decisions policy stage seen)
    (map (λ values. branch_at stage stochastics values (node_at decisions stochastics policy later (stage + 1) (seen ++ values)))
    (stage_outcomes stage stochastics))

-- the outermost node: stage 1, before anything is seen
abbrev pub outermost_node : List Decision → List Stochastic → Policy → Data
outermost_node decisions stochastics policy = node_at decisions stochastics policy (last_stage decisions - 1) 1 []

-- a policy of a problem as nested JSON: its outermost node
abbrev pub policy_data : Problem → Policy → Data
policy_data problem policy = outermost_node problem.decisions problem.stochastics policy
