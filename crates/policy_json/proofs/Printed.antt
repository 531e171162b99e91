-- From the JSON of a policy back to its values.
use Rattle.std.proofs.Common.{◌≡◌, ◌+◌, ◌-◌, ◌≤◌, ◌++◌, ℕ, zero, suc, nat_eq, ℤ, pos, negsuc, true, false, List, [], ◌∷◌, map, Option, Some, None, is_some, unwrap_or, arith, inl, inr}
use Rattle.std.proofs.Common.{refl, sym, ap, subst, ◌∙◌, true≢false, zero-add}
use Rattle.std.proofs.lemmas.Bool.{cases_order}
use Rattle.std.specs.List.{AllByRecursion, enumerate_from}
use Rattle.std.specs.FinMap.{get, same_map}
use Rattle.serde_json.specs.Data.{Num, unsigned, negative, float, Data, null, boolean, number, string, array, object, Items, no_items, item, Members, no_members, member}
use Rattle.serde_json.specs.Find.{of_integer}
use Rattle.serde_json.specs.View.{items_of}
use Rattle.sopl_ast.specs.Accepted.{AcceptedModel}
use Rattle.sopl_ast.specs.Instances.{Decision, Stochastic, Problem}
use Rattle.sopl_ast.specs.Scenarios.{scenarios}
use Rattle.sopl_ast.specs.Histories.{history}
use Rattle.sopl_ast.specs.Limits.{Limits}
use Rattle.sopl_ast.specs.Policies.{Key, Policy, IsKey, IsPolicy}
use Rattle.sopl_ast.specs.Whole.{ModelTree}
use Rattle.policy_tree.proofs.Members.{In, In-Contains, In-enumerate, In-filter}
use Rattle.policy_tree.proofs.KeyOrder.{key_total, key_antisymmetric}
use Rattle.unfold_laws.specs.Bounds.{IsBoundedDecision}
use Rattle.unfold_laws.proofs.Whole.{decisions_are_bounded}
use Rattle.scen_laws.proofs.Prefixes.{same}
use Rattle.policy_json.specs.Entries.{entry_of, seen_entries}
use Rattle.policy_json.specs.LastStage.{last_stage}
use Rattle.policy_json.specs.Nodes.{branch_of, decide_of, decided_at, decision_entry, node_at, node_of, numbered_in_stage, policy_data, seen_after, stage_outcomes}
use Rattle.policy_json.specs.Staged.{Ascend}
use Rattle.policy_json.proofs.Branches.{branch_after}
use Rattle.policy_json.proofs.Chosen.{AreChosen, Now, chosen_in, chosen_outcome, none_seen, now_chosen}
use Rattle.policy_json.proofs.Staged.{texts_ascend}

-- what data are made from
abbrev integer_in : Num → ℤ
integer_in (unsigned n) = pos n
integer_in (negative z) = z
integer_in (float x) = pos 0

abbrev number_in : Data → ℤ
number_in null = pos 0
number_in (boolean b) = pos 0
number_in (number n) = integer_in n
number_in (string s) = pos 0
number_in (array ds) = pos 0
number_in (object ms) = pos 0

abbrev list_in : Items → List Data
list_in no_items = []
list_in (item d ds) = d ∷ list_in ds

abbrev array_in : Data → List Data
array_in null = []
array_in (boolean b) = []
array_in (number n) = []
array_in (string s) = []
array_in (array ds) = list_in ds
array_in (object ms) = []

abbrev pub members_in : Data → Members
members_in null = no_members
members_in (boolean b) = no_members
members_in (number n) = no_members
members_in (string s) = no_members
members_in (array ds) = no_members
members_in (object ms) = ms

abbrev pub first_in : Members → Data
first_in no_members = null
first_in (member k d ms) = d

abbrev pub later_in : Members → Members
later_in no_members = no_members
later_in (member k d ms) = ms

abbrev pub first_of : {A : Type 0} → A → List A → A
first_of d [] = d
first_of d (x ∷ xs) = x

abbrev pub later_of : {A : Type 0} → List A → List A
later_of [] = []
later_of (x ∷ xs) = xs

integer_back : (z : ℤ) → integer_in (of_integer z) ≡ z
integer_back (pos n) = refl
integer_back (negsuc n) = refl

list_back : (ds : List Data) → list_in (items_of ds) ≡ ds
list_back [] = refl
list_back (d ∷ ds) = ap (λ es. d ∷ es) (list_back ds)

-- the value of an entry
abbrev value_in : Data → ℤ
value_in d = number_in (first_of null (later_of (later_of (array_in d))))

entry_value : (name : List ℕ) (index : List ℤ) (v w : ℤ) → entry_of name index v ≡ entry_of name index w → v ≡ w
entry_value name index v w is = sym (integer_back v) ∙ ap value_in is ∙ integer_back w

-- the two parts of a node, and what follows in a branch
node_decide : (xs ys ns ms : List Data) → node_of xs ns ≡ node_of ys ms → xs ≡ ys
node_decide xs ys ns ms is = sym (list_back xs) ∙ ap (λ d. array_in (first_in (members_in d))) is ∙ list_back ys

node_next : (xs ys ns ms : List Data) → node_of xs ns ≡ node_of ys ms → ns ≡ ms
node_next xs ys ns ms is = sym (list_back ns) ∙ ap (λ d. array_in (first_in (later_in (members_in d)))) is ∙ list_back ms

branch_then : (xs ys : List Data) (d e : Data) → branch_of xs d ≡ branch_of ys e → d ≡ e
branch_then xs ys d e is = ap (λ b. first_in (later_in (members_in b))) is

-- where two lists of the same things are alike, so is what is made of each
each_same : {A B : Type 0} (f g : A → B) (xs : List A) (x : A) → map f xs ≡ map g xs → In x xs → f x ≡ g x
each_same f g [] x is h = absurd h
each_same {A} f g (y ∷ ys) x is (inl e) =
    let P : A → Type 0 = λ z. f z ≡ g z in
    subst P e (ap (first_of (f y)) is)
each_same f g (y ∷ ys) x is (inr h) = each_same f g ys x (ap later_of is) h

module _ (ds : List Decision) (ss : List Stochastic) (p q : Policy) where
  -- the decisions of a node
  decided_alike : (stage : ℕ) (seen : List ℤ) (place : ℕ) (d : Decision) → decide_of ds p stage seen ≡ decide_of ds q stage seen → In (place, d) (enumerate_from 0 ds)
      → d.stage ≡ stage → decided_at p place seen ≡ decided_at q place seen
  decided_alike stage seen place d is within at =
      entry_value d.name d.index (decided_at p place seen) (decided_at q place seen)
      (each_same (decision_entry p seen) (decision_entry q seen) (numbered_in_stage stage (enumerate_from 0 ds)) (place, d) is
      (In-filter (λ (nd : ℕ × Decision). nat_eq nd.1.stage stage) (enumerate_from 0 ds) (place, d) within (same d.stage stage at)))

  -- the node that follows on what can be seen next
  next_alike : (later stage : ℕ) (seen ws : List ℤ) → node_at ds ss p (suc later) stage seen ≡ node_at ds ss q (suc later) stage seen → In ws (stage_outcomes stage ss)
      → node_at ds ss p later (stage + 1) (seen ++ ws) ≡ node_at ds ss q later (stage + 1) (seen ++ ws)
  next_alike later stage seen ws is within =
      branch_then (seen_entries (seen_after stage ss) ws) (seen_entries (seen_after stage ss) ws) (node_at ds ss p later (stage + 1) (seen ++ ws)) (node_at ds ss q later (stage + 1) (seen ++ ws))
      (each_same (branch_after ds ss p later stage seen) (branch_after ds ss q later stage seen) (stage_outcomes stage ss) ws
      (node_next (decide_of ds p stage seen) (decide_of ds q stage seen) (map (branch_after ds ss p later stage seen) (stage_outcomes stage ss))
      (map (branch_after ds ss q later stage seen) (stage_outcomes stage ss)) is) within)

  -- the node of a stage and of what vs has shown, with so many stages behind it, has the value of each decision of these stages at what vs shows
  node_alike : (vs : List ℤ) → Ascend 1 ss → AreChosen ss vs → (later stage : ℕ) (seen : List ℤ) → seen ≡ history stage ss vs
      → node_at ds ss p later stage seen ≡ node_at ds ss q later stage seen → (place : ℕ) (d : Decision) → In (place, d) (enumerate_from 0 ds)
      → stage ≤ d.stage → d.stage ≤ stage + later → decided_at p place (history d.stage ss vs) ≡ decided_at q place (history d.stage ss vs)
  node_alike vs ascend chosen zero stage seen shown is place d within from to =
      let at : d.stage ≡ stage = omega (arith, from, to) in
      let P : List ℤ → Type 0 = λ zs. decided_at p place zs ≡ decided_at q place zs in
      subst P (shown ∙ ap (λ n. history n ss vs) (sym at))
      (decided_alike stage seen place d (node_decide (decide_of ds p stage seen) (decide_of ds q stage seen) [] [] is) within at)
  node_alike vs ascend chosen (suc later) stage seen shown is place d within from to =
      elim (cases_order d.stage stage) [
        | inl at ↦
            let P : List ℤ → Type 0 = λ zs. decided_at p place zs ≡ decided_at q place zs in
            subst P (shown ∙ ap (λ n. history n ss vs) (sym at))
            (decided_alike stage seen place d
            (node_decide (decide_of ds p stage seen) (decide_of ds q stage seen) (map (branch_after ds ss p later stage seen) (stage_outcomes stage ss))
            (map (branch_after ds ss q later stage seen) (stage_outcomes stage ss)) is) within at)
        | inr (inl earlier) ↦ absurd (omega (arith, from, earlier))
        | inr (inr behind) ↦
            let now : Now stage ss vs = now_chosen stage 1 ss vs ascend chosen in
            node_alike vs ascend chosen later (stage + 1) (seen ++ now.0) (ap (λ zs. zs ++ now.0) shown ∙ sym now.2) (next_alike later stage seen now.0 is (chosen_outcome stage ss now.0 now.1)) place d within
            (omega (arith, behind)) (omega (arith, to))
      ]

-- the last stage is no earlier than that of a decision, and 1 at least
stage_within : (n : ℕ) (ds : List Decision) (place : ℕ) (d : Decision) → In (place, d) (enumerate_from n ds) → d.stage ≤ last_stage ds
stage_within n [] place d h = absurd h
stage_within n (e ∷ ds) place d (inl is) =
    let at : e.stage ≡ d.stage = ap (λ (nd : ℕ × Decision). nd.1.stage) is in
    omega (arith, at)
stage_within n (e ∷ ds) place d (inr h) = omega (arith, stage_within (n + 1) ds place d h)

last_from_one : (ds : List Decision) → 1 ≤ last_stage ds
last_from_one [] = omega arith
last_from_one (d ∷ ds) = omega (arith, last_from_one ds)

-- the stage of a decision is 1 at least
stage_from_one : (n : ℕ) (ds : List Decision) (place : ℕ) (d : Decision) → AllByRecursion IsBoundedDecision ds → In (place, d) (enumerate_from n ds) → 1 ≤ d.stage
stage_from_one n [] place d all h = absurd h
stage_from_one n (e ∷ ds) place d all (inl is) =
    let P : Decision → Type 0 = λ (x : Decision). 1 ≤ x.stage in
    subst P (ap (λ (nd : ℕ × Decision). nd.1) is) all.0.stage.0
stage_from_one n (e ∷ ds) place d all (inr h) = stage_from_one (n + 1) ds place d all.1 h

-- the policies of a problem that comes by stage, whose JSON is the same
module _ (problem : Problem) (p q : Policy) (ascend : Ascend 1 problem.stochastics) (bounded : AllByRecursion IsBoundedDecision problem.decisions)
    (is_p : IsPolicy problem p) (is_q : IsPolicy problem q) (is : policy_data problem p ≡ policy_data problem q) where
  key_decided : (key : Key) → IsKey problem key → decided_at p key.0 key.1 ≡ decided_at q key.0 key.1
  key_decided key k =
      let vs : List ℤ = k.scenario.values in
      let chosen : AreChosen problem.stochastics vs = chosen_in problem.stochastics k.scenario (In-Contains (scenarios problem.stochastics) k.scenario k.possible) in
      let within : In (key.0, k.decision) (enumerate_from 0 problem.decisions) =
      subst (λ (n : ℕ). In (n, k.decision) (enumerate_from 0 problem.decisions)) (zero-add key.0) (In-enumerate 0 problem.decisions key.0 k.decision k.decided) in
      let last : 1 ≤ last_stage problem.decisions = last_from_one problem.decisions in
      let to : k.decision.stage ≤ last_stage problem.decisions = stage_within 0 problem.decisions key.0 k.decision within in
      let P : List ℤ → Type 0 = λ seen. decided_at p key.0 seen ≡ decided_at q key.0 seen in
      subst P (sym k.seen)
      (node_alike problem.decisions problem.stochastics p q vs ascend chosen (last_stage problem.decisions - 1) 1 []
      (sym (none_seen 1 1 problem.stochastics vs ascend (omega arith))) is key.0 k.decision within
      (stage_from_one 0 problem.decisions key.0 k.decision bounded within) (omega (arith, last, to)))

  some_is : (o : Option ℤ) → is_some o ≡ true → o ≡ Some (unwrap_or o (pos 0))
  some_is None h = cc
  some_is (Some v) h = refl

  none_is : (o : Option ℤ) → is_some o ≡ false → o ≡ None
  none_is None h = refl
  none_is (Some v) h = cc

  key_alike : (key : Key) → get p key ≡ get q key
  key_alike key = by (is_some (get p key)) refl (is_some (get q key)) refl
    where
      by : (a : _) → is_some (get p key) ≡ a → (b : _) → is_some (get q key) ≡ b → get p key ≡ get q key
      by true a true b = some_is (get p key) a ∙ ap Some (key_decided key ((is_p.keys key).0 a)) ∙ sym (some_is (get q key) b)
      by true a false b = absurd (true≢false (sym ((is_q.keys key).1 ((is_p.keys key).0 a)) ∙ b))
      by false a true b = absurd (true≢false (sym ((is_p.keys key).1 ((is_q.keys key).0 b)) ∙ a))
      by false a false b = none_is (get p key) a ∙ sym (none_is (get q key) b)

  pub data_alike : p ≡ q
  data_alike = same_map key_total key_antisymmetric p q key_alike

-- policies of an accepted problem
pub accepted_json : (limits : Limits) (model : ModelTree) (problem : Problem) → AcceptedModel limits model problem → (p q : Policy) → IsPolicy problem p → IsPolicy problem q
    → policy_data problem p ≡ policy_data problem q → p ≡ q
accepted_json limits model problem accepted p q is_p is_q is =
    let Ascends : Problem → Type 0 = λ (x : Problem). Ascend 1 x.stochastics in
    let Bounded : Problem → Type 0 = λ (x : Problem). AllByRecursion IsBoundedDecision x.decisions in
    data_alike problem p q (subst Ascends accepted.stated (texts_ascend model accepted.unfolded)) (subst Bounded accepted.stated (decisions_are_bounded model accepted.unfolded)) is_p is_q is
