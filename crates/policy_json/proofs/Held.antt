-- The JSON of a policy has the values that the policy holds.
use Rattle.std.proofs.Common.{◌≡◌, ◌+◌, ◌-◌, ◌++◌, ℕ, zero, suc, arith, nat_eq, ℤ, pos, true, List, [], ◌∷◌, map, slice_get, Option, Some, None, IfSome, is_some, unwrap_or}
use Rattle.std.proofs.Common.{option_map, inl, inr, refl, sym, ap, subst, ◌∙◌}
use Rattle.std.specs.List.{enumerate_from}
use Rattle.std.specs.FinMap.{get}
use Rattle.std.proofs.Math.Nat.{zero-add}
use Rattle.std.proofs.lemmas.Bool.{eqb-true}
use Rattle.serde_json.specs.Data.{Data}
use Rattle.sopl_ast.specs.Instances.{Decision, Stochastic, Problem}
use Rattle.sopl_ast.specs.Scenarios.{Scenario, scenarios}
use Rattle.sopl_ast.specs.Histories.{history}
use Rattle.sopl_ast.specs.Policies.{Policy, IsKey, IsPolicy}
use Rattle.sopl_ast.specs.Numbers.{all_of, both_of}
use Rattle.policy_tree.proofs.Members.{In, Contains-In, from_enumerate, from_filter}
use Rattle.policy_json.specs.Entries.{entry_of}
use Rattle.policy_json.specs.LastStage.{last_stage}
use Rattle.policy_json.specs.Nodes.{branch_at, decide_of, decision_entry, node_at, node_of, numbered_in_stage, outermost_node, policy_data, stage_outcomes}
use Rattle.policy_json.specs.Held.{held_data, held_decide, held_entry, held_node_at, held_outermost}
use Rattle.policy_json.specs.Staged.{IsStaged}
use Rattle.policy_json.proofs.Chosen.{AreChosen, Next, any_chosen, next_chosen, none_seen, outcome_chosen, scenario_of}
use Rattle.policy_json.proofs.Branches.{branch_after}

-- two things made into one, where they are these where they are there
both_same : {A B C : Type 0} (make : A → B → C) (a : Option A) (b : Option B) (x : A) (y : B) → IfSome a (λ p. x ≡ p) → IfSome b (λ q. y ≡ q) → IfSome (both_of make a b) (λ r. make x y ≡ r)
both_same make None b x y one two = tt
both_same make (Some p) None x y one two = tt
both_same make (Some p) (Some q) x y one two = λ i. make (one i) (two i)

-- what is made of a thing, where it is this one where it is there
map_same : {A B : Type 0} (f : A → B) (o : Option A) (x : A) → IfSome o (λ p. x ≡ p) → IfSome (option_map f o) (λ r. f x ≡ r)
map_same f None x one = tt
map_same f (Some p) x one = ap f one

-- all of a list, where each is what a function gives where it is there
all_same : {A B : Type 0} (f : A → Option B) (g : A → B) (xs : List A) → ((x : A) → IfSome (f x) (λ y. g x ≡ y)) → IfSome (all_of f xs) (λ ys. map g xs ≡ ys)
all_same f g [] each = refl
all_same f g (x ∷ xs) each = both_same (λ y ys. y ∷ ys) (f x) (all_of f xs) (g x) (map g xs) (each x) (all_same f g xs each)

-- what is made of a value that is there is made of the value that is read
read_same : {A : Type 0} (f : ℤ → A) (o : Option ℤ) → IfSome (option_map f o) (λ r. f (unwrap_or o (pos 0)) ≡ r)
read_same f None = tt
read_same f (Some v) = refl

-- what is decided is what the policy holds, where it holds all of it
decide_same : (ds : List Decision) (policy : Policy) (stage : ℕ) (seen : List ℤ) → IfSome (held_decide ds policy stage seen) (λ decide. decide_of ds policy stage seen ≡ decide)
decide_same ds policy stage seen =
    all_same (held_entry policy seen) (decision_entry policy seen) (numbered_in_stage stage (enumerate_from 0 ds))
    (λ (nd : ℕ × Decision). read_same (entry_of nd.1.name nd.1.index) (get policy (nd.0, seen)))

-- a node is that of the values that the policy holds, where it holds all of them
node_same : (ds : List Decision) (ss : List Stochastic) (policy : Policy) (later stage : ℕ) (seen : List ℤ)
    → IfSome (held_node_at ds ss policy later stage seen) (λ node. node_at ds ss policy later stage seen ≡ node)
node_same ds ss policy zero stage seen =
    map_same (λ decide. node_of decide []) (held_decide ds policy stage seen) (decide_of ds policy stage seen) (decide_same ds policy stage seen)
node_same ds ss policy (suc later) stage seen =
    both_same node_of (held_decide ds policy stage seen) (all_of (held_branch later) (stage_outcomes stage ss))
    (decide_of ds policy stage seen) (map (branch_after ds ss policy later stage seen) (stage_outcomes stage ss)) (decide_same ds policy stage seen)
    (all_same (held_branch later) (branch_after ds ss policy later stage seen) (stage_outcomes stage ss)
    (λ values. map_same (branch_at stage ss values) (held_node_at ds ss policy later (stage + 1) (seen ++ values)) (node_at ds ss policy later (stage + 1) (seen ++ values))
    (node_same ds ss policy later (stage + 1) (seen ++ values))))
  where
    held_branch : ℕ → List ℤ → Option Data
    held_branch later values = option_map (branch_at stage ss values) (held_node_at ds ss policy later (stage + 1) (seen ++ values))

-- data that are a node's are those of the values that the policy holds, where it holds all of them
shown_same : (ds : List Decision) (ss : List Stochastic) (policy : Policy) (later stage : ℕ) (seen : List ℤ) (shown : Data) → shown ≡ node_at ds ss policy later stage seen
    → IfSome (held_node_at ds ss policy later stage seen) (λ node. shown ≡ node)
shown_same ds ss policy later stage seen shown is =
    let P : Data → Type 0 = λ d. IfSome (held_node_at ds ss policy later stage seen) (λ node. d ≡ node) in
    subst P (sym is) (node_same ds ss policy later stage seen)

-- the outermost node is shown as it is kept
pub shown_outermost : (ds : List Decision) (ss : List Stochastic) (policy : Policy) (shown : Data) → shown ≡ outermost_node ds ss policy
    → IfSome (held_outermost ds ss policy) (λ node. shown ≡ node)
shown_outermost ds ss policy shown is = shown_same ds ss policy (last_stage ds - 1) 1 [] shown is

-- all of a list is there, where each is what a function gives
all_there : {A B : Type 0} (f : A → Option B) (g : A → B) (xs : List A) → ((x : A) → In x xs → f x ≡ Some (g x)) → all_of f xs ≡ Some (map g xs)
all_there f g [] each = refl
all_there f g (x ∷ xs) each =
    λ i. both_of (λ y ys. y ∷ ys) (each x (inl refl) i) (all_there f g xs (λ y later. each y (inr later)) i)

-- what is made of a value that is there
read_there : {A : Type 0} (f : ℤ → A) (o : Option ℤ) → is_some o ≡ true → option_map f o ≡ Some (f (unwrap_or o (pos 0)))
read_there f None there = cc
read_there f (Some v) there = refl

-- the history is what has been seen of some chosen values when the stage is chosen
abbrev IsSeen : Problem → ℕ → List ℤ → Type 0
IsSeen problem stage seen = (vs : List ℤ) × AreChosen problem.stochastics vs × (history stage problem.stochastics vs ≡ seen)

-- a decision of the stage with such a history is a key
pub is_key : (problem : Problem) (number stage : ℕ) (d : Decision) (seen : List ℤ) → slice_get problem.decisions number ≡ Some d → d.stage ≡ stage → IsSeen problem stage seen
    → IsKey problem (number, seen)
is_key problem number stage d seen decided here (vs, chosen, is) =
    let from : (x : Scenario) × In x (scenarios problem.stochastics) × (x.values ≡ vs) = scenario_of problem.stochastics vs chosen in
    record {
      decision = d;
      decided = decided;
      scenario = from.0;
      possible = Contains-In (scenarios problem.stochastics) from.0 from.1;
      seen = sym is ∙ λ i. history (sym here i) problem.stochastics (sym from.2 i);
    }

-- the policy holds what is decided at such a history
decide_there : (problem : Problem) (policy : Policy) (stage : ℕ) (seen : List ℤ) → IsPolicy problem policy → IsSeen problem stage seen
    → held_decide problem.decisions policy stage seen ≡ Some (decide_of problem.decisions policy stage seen)
decide_there problem policy stage seen is possible =
    all_there (held_entry policy seen) (decision_entry policy seen) (numbered_in_stage stage (enumerate_from 0 problem.decisions)) each
  where
    each : (nd : ℕ × Decision) → In nd (numbered_in_stage stage (enumerate_from 0 problem.decisions)) → held_entry policy seen nd ≡ Some (decision_entry policy seen nd)
    each (number, d) within =
        let kept = from_filter (λ (nd : ℕ × Decision). nat_eq nd.1.stage stage) (enumerate_from 0 problem.decisions) (number, d) within in
        let placed : (i : ℕ) × (number ≡ 0 + i) × (slice_get problem.decisions i ≡ Some d) = from_enumerate 0 problem.decisions number d kept.0 in
        let At : ℕ → Type 0 = λ n. slice_get problem.decisions n ≡ Some d in
        let decided : slice_get problem.decisions number ≡ Some d = subst At (sym (placed.1 ∙ zero-add placed.0)) placed.2 in
        read_there (entry_of d.name d.index) (get policy (number, seen))
        ((is.keys (number, seen)).1 (is_key problem number stage d seen decided (eqb-true d.stage stage kept.1) possible))

-- what may be seen next, at such a history of a stage, makes one of the next stage
pub next_seen : (problem : Problem) (stage : ℕ) (seen values : List ℤ) → IsStaged problem → IsSeen problem stage seen → In values (stage_outcomes stage problem.stochastics)
    → IsSeen problem (stage + 1) (seen ++ values)
next_seen problem stage seen values staged (vs, chosen, is) within =
    let next : Next stage problem.stochastics vs values =
    next_chosen stage 1 problem.stochastics vs values staged.ascending chosen (outcome_chosen stage problem.stochastics values within) in
    (next.0, next.1, next.2 ∙ ap (λ xs. xs ++ values) is)

-- the policy holds the values of a node at such a history, and of those after it
node_there : (problem : Problem) (policy : Policy) → IsStaged problem → IsPolicy problem policy → (later stage : ℕ) (seen : List ℤ) → IsSeen problem stage seen
    → held_node_at problem.decisions problem.stochastics policy later stage seen ≡ Some (node_at problem.decisions problem.stochastics policy later stage seen)
node_there problem policy staged is zero stage seen possible =
    ap (option_map (λ decide. node_of decide [])) (decide_there problem policy stage seen is possible)
node_there problem policy staged is (suc later) stage seen possible =
    λ i. both_of node_of (decide_there problem policy stage seen is possible i)
    (all_there (λ values. option_map (branch_at stage problem.stochastics values) (held_node_at problem.decisions problem.stochastics policy later (stage + 1) (seen ++ values)))
    (branch_after problem.decisions problem.stochastics policy later stage seen) (stage_outcomes stage problem.stochastics)
    (λ values within. ap (option_map (branch_at stage problem.stochastics values))
    (node_there problem policy staged is later (stage + 1) (seen ++ values) (next_seen problem stage seen values staged possible within))) i)

-- a policy of a problem holds all values of its JSON
pub data_there : (problem : Problem) (policy : Policy) → IsStaged problem → IsPolicy problem policy → held_data problem policy ≡ Some (policy_data problem policy)
data_there problem policy staged is =
    let some : (vs : List ℤ) × AreChosen problem.stochastics vs = any_chosen problem.stochastics staged.outcomes in
    node_there problem policy staged is (last_stage problem.decisions - 1) 1 []
    (some.0, some.1, none_seen 1 1 problem.stochastics some.0 staged.ascending (omega arith))
