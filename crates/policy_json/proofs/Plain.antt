-- No float stands in a policy.
use Rattle.std.proofs.Common.{◌≡◌, ◌+◌, ◌-◌, ◌++◌, ap, ◌∙◌, ℕ, zero, suc, ℤ, List, [], map, false, refl}
use Rattle.std.specs.List.{zip, enumerate_from}
use Rattle.std.proofs.lemmas.Bool.{or_from}
use Rattle.serde_json.specs.Data.{Data}
use Rattle.serde_json.specs.View.{items_of}
use Rattle.serde_json.specs.Written.{has_float, items_have_float}
use Rattle.sopl_ast.specs.Instances.{Decision, Stochastic}
use Rattle.sopl_ast.specs.Policies.{Policy}
use Rattle.policy_json.proofs.EntryPlain.{entry_plain, map_plain}
use Rattle.policy_json.specs.Entries.{entry_of, seen_entries}
use Rattle.policy_json.specs.LastStage.{last_stage}
use Rattle.policy_json.specs.Nodes.{decide_of, decided_at, decision_entry, node_at, node_of, numbered_in_stage, outermost_node, seen_after, stage_outcomes}
use Rattle.policy_json.proofs.Branches.{branch_after}

-- the decisions of a node
decide_plain : (ds : List Decision) (policy : Policy) (stage : ℕ) (seen : List ℤ) → items_have_float (items_of (decide_of ds policy stage seen)) ≡ false
decide_plain ds policy stage seen =
    map_plain (decision_entry policy seen) (λ d. entry_plain d.1.name d.1.index (decided_at policy d.0 seen)) (numbered_in_stage stage (enumerate_from 0 ds))

-- what is seen next
seen_plain : (ss : List Stochastic) (values : List ℤ) → items_have_float (items_of (seen_entries ss values)) ≡ false
seen_plain ss values =
    map_plain (λ (s : Stochastic × ℤ). entry_of s.0.name s.0.index s.1) (λ s. entry_plain s.0.name s.0.index s.1) (zip ss values)

-- a node, by its members
members_plain : (decide next : List Data) → items_have_float (items_of decide) ≡ false → items_have_float (items_of next) ≡ false → has_float (node_of decide next) ≡ false
members_plain decide next one two = or_from _ _ one (or_from _ _ two refl)

-- a node
pub node_plain : (ds : List Decision) (ss : List Stochastic) (policy : Policy) (later stage : ℕ) (seen : List ℤ) → has_float (node_at ds ss policy later stage seen) ≡ false
node_plain ds ss policy zero stage seen =
    members_plain (decide_of ds policy stage seen) [] (decide_plain ds policy stage seen) refl
node_plain ds ss policy (suc later) stage seen =
    members_plain (decide_of ds policy stage seen) (map (branch_after ds ss policy later stage seen) (stage_outcomes stage ss)) (decide_plain ds policy stage seen)
    (map_plain (branch_after ds ss policy later stage seen) (λ values.
    or_from _ _ (seen_plain (seen_after stage ss) values) (or_from _ _ (node_plain ds ss policy later (stage + 1) (seen ++ values)) refl)) (stage_outcomes stage ss))

-- the outermost node
pub outermost_plain : (ds : List Decision) (ss : List Stochastic) (policy : Policy) (shown : Data) → shown ≡ outermost_node ds ss policy → has_float shown ≡ false
outermost_plain ds ss policy shown is = ap has_float is ∙ node_plain ds ss policy (last_stage ds - 1) 1 []
