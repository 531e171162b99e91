-- What is printed of a policy has the form.
use native.Mathlib.Omega.{arith}
use Rattle.std.proofs.Common.{◌≡◌, ◌∙◌, ◌+◌, ◌++◌, ℕ, zero, suc, ℤ, pos, negsuc, List, [], ◌∷◌, map, Bool, true, false, ◌&&◌, not, cond, Some, None, option_map, if◌then◌else◌, codes, is_some, unwrap_or, nat_eq, inl, inr, refl, sym, ap, subst, slice_get}
use Rattle.std.proofs.lemmas.Int.{ints}
use Rattle.std.specs.List.{AllByRecursion, enumerate_from, position_from, zip}
use Rattle.std.specs.Option.{option_map_or}
use Rattle.serde_json.specs.Data.{Data, string}
use Rattle.serde_json.specs.Find.{as_i64, of_integer}
use Rattle.sopl_base.proofs.Lists.{bytes_same}
use Rattle.sopl_ast.specs.Instances.{Decision, Stochastic}
use Rattle.sopl_ast.specs.Policies.{Policy}
use Rattle.policy_tree.proofs.Members.{In, from_enumerate, from_filter}
use Rattle.policy_json.specs.Entries.{entry_of, list_of, seen_entries, whole_number}
use Rattle.policy_json.specs.Nodes.{branch_of, decide_of, decided_at, decision_entry, node_at, node_of, numbered_in_stage, seen_after, stage_outcomes}
use Rattle.policy_json.proofs.Branches.{branch_after}
use Rattle.policy_read.specs.Listed.{alike, int_is, list_in, list_under, pairwise, same_whole}
use Rattle.policy_read.specs.Entries.{is_told, same_place, same_seen, told_at, told_in}
use Rattle.policy_read.specs.Forms.{Facing, differs, facing, first_difference, is_branch, is_node, nodes_behind, nodes_of}
use Rattle.policy_read.proofs.Alike.{listed}

-- a whole number is read back
abbrev pub IsReadBack : ℤ → Type 0
IsReadBack z = as_i64 (of_integer z) ≡ Some z

int_same : (z : ℤ) → int_is z z ≡ true
int_same (pos n) = search (arith, ints)
int_same (negsuc n) = search (arith, ints)

whole_same : (z : ℤ) → IsReadBack z → same_whole (whole_number z) (whole_number z) ≡ true
whole_same z is = (λ i. option_map_or (λ a. option_map_or (int_is a) (is i) false) (is i) false) ∙ int_same z

alike_each : {X : Type 0} (test : Data → Data → Bool) (f g : X → Data) (xs : List X) → ((x : X) → In x xs → test (f x) (g x) ≡ true) → alike test (map f xs) (map g xs) ≡ true
alike_each test f g [] each = refl
alike_each test f g (x ∷ xs) each = λ i. each x (inl refl) i && alike_each test f g xs (λ y h. each y (inr h)) i

index_same : (index : List ℤ) → AllByRecursion IsReadBack index → alike same_whole (map whole_number index) (map whole_number index) ≡ true
index_same [] all = refl
index_same (z ∷ zs) all = λ i. whole_same z all.0 i && index_same zs all.1 i

pub list_back : (ds : List Data) → list_in (list_of ds) ≡ Some ds
list_back ds = ap Some (listed ds)

-- entries of one name and one index
module _ (name : List ℕ) (index : List ℤ) (all : AllByRecursion IsReadBack index) where
  place_same : same_place (string name) (list_of (map whole_number index)) (string name) (list_of (map whole_number index)) ≡ true
  place_same =
      let indices : List Data = map whole_number index in
      (λ i. bytes_same name i && option_map_or (λ xs. option_map_or (alike same_whole xs) (list_back indices i) false) (list_back indices i) false) ∙ index_same index all

  pub entry_told : (c : ℕ) (v : ℤ) → IsReadBack v → told_in (entry_of name index (pos c)) (entry_of name index v) ≡ Some (told_at c v)
  entry_told c v is = λ i. if place_same i then option_map (told_at c) (is i) else None

  pub entry_seen : (v : ℤ) → IsReadBack v → same_seen (entry_of name index v) (entry_of name index v) ≡ true
  entry_seen v is = λ i. place_same i && whole_same v is i

-- nodes and branches
pub decide_back : (decide next : List Data) → list_under (codes "decide") (node_of decide next) ≡ Some decide
decide_back decide next = list_back decide

pub next_back : (decide next : List Data) → list_under (codes "next") (node_of decide next) ≡ Some next
next_back decide next = list_back next

seen_back : (seen : List Data) (d : Data) → list_under (codes "seen") (branch_of seen d) ≡ Some seen
seen_back seen d = list_back seen

branch_same : (seen : List Data) (d e : Data) → alike same_seen seen seen ≡ true → is_branch (branch_of seen d) (branch_of seen e) ≡ true
branch_same seen d e are = (λ i. option_map_or (λ xs. option_map_or (alike same_seen xs) (seen_back seen e i) false) (seen_back seen d i) false && true) ∙ ap (λ b. b && true) are

node_same : (ds es ns ms : List Data) → alike is_told ds es ≡ true → alike is_branch ns ms ≡ true → is_node (facing (node_of ds ns) (node_of es ms)) ≡ true
node_same ds es ns ms told branched =
    (λ i. option_map_or (λ xs. option_map_or (alike is_told xs) (decide_back es ms i) false) (decide_back ds ns i) false
    && option_map_or (λ xs. option_map_or (alike is_branch xs) (next_back es ms i) false) (next_back ds ns i) false)
    ∙ (λ i. told i && branched i)

-- nodes of which none differs
abbrev pub AreNodes : List Facing → Type 0
AreNodes nodes = AllByRecursion (λ h. is_node h ≡ true) nodes

both_nodes : (xs ys : List Facing) → AreNodes xs → AreNodes ys → AreNodes (xs ++ ys)
both_nodes [] ys one two = two
both_nodes (x ∷ xs) ys one two = (one.0, both_nodes xs ys one.1 two)

none_differs : (nodes : List Facing) → AreNodes nodes → (i : ℕ) → position_from differs i nodes ≡ None
none_differs [] are i = refl
none_differs (h ∷ hs) are i = ap (λ b. cond (not b) (Some i) (position_from differs (i + 1) hs)) are.0 ∙ none_differs hs are.1 (i + 1)

-- the values of the form are numbers; those of the policy, and all indices and values that are seen, are read back
pub record AreReadBack (ds : List Decision) (ss : List Stochastic) (form policy : Policy) : Type 0 where
  pub numbers : (place : ℕ) (seen : List ℤ) → (c : ℕ) × (decided_at form place seen ≡ pos c)
  pub values : (place : ℕ) (seen : List ℤ) → IsReadBack (decided_at policy place seen)
  pub decided : (i : ℕ) (d : Decision) → slice_get ds i ≡ Some d → AllByRecursion IsReadBack d.index
  pub seen : (stage : ℕ) (values : List ℤ) → In values (stage_outcomes stage ss)
      → AllByRecursion (λ (s : Stochastic × ℤ). AllByRecursion IsReadBack s.0.index × IsReadBack s.1) (zip (seen_after stage ss) values)

each_seen : (xs : List (Stochastic × ℤ)) → AllByRecursion (λ (s : Stochastic × ℤ). AllByRecursion IsReadBack s.0.index × IsReadBack s.1) xs
    → alike same_seen (map (λ (s : Stochastic × ℤ). entry_of s.0.name s.0.index s.1) xs) (map (λ (s : Stochastic × ℤ). entry_of s.0.name s.0.index s.1) xs) ≡ true
each_seen [] all = refl
each_seen (s ∷ xs) all = λ i. entry_seen s.0.name s.0.index all.0.0 s.1 all.0.1 i && each_seen xs all.1 i

module _ (ds : List Decision) (ss : List Stochastic) (q p : Policy) (are : AreReadBack ds ss q p) where
  entry_is_told : (seen : List ℤ) (nd : ℕ × Decision) → AllByRecursion IsReadBack nd.1.index → is_told (decision_entry q seen nd) (decision_entry p seen nd) ≡ true
  entry_is_told seen (place, d) all =
      let number : (c : ℕ) × (decided_at q place seen ≡ pos c) = are.numbers place seen in
      (λ i. is_told (entry_of d.name d.index (number.1 i)) (decision_entry p seen (place, d)))
      ∙ ap is_some (entry_told d.name d.index all number.0 (decided_at p place seen) (are.values place seen))

  decide_told : (stage : ℕ) (seen : List ℤ) → alike is_told (decide_of ds q stage seen) (decide_of ds p stage seen) ≡ true
  decide_told stage seen =
      alike_each is_told (decision_entry q seen) (decision_entry p seen) (numbered_in_stage stage (enumerate_from 0 ds)) each
    where
      each : (nd : ℕ × Decision) → In nd (numbered_in_stage stage (enumerate_from 0 ds)) → is_told (decision_entry q seen nd) (decision_entry p seen nd) ≡ true
      each (place, d) within =
          let kept = from_filter (λ (nd : ℕ × Decision). nat_eq nd.1.stage stage) (enumerate_from 0 ds) (place, d) within in
          let found = from_enumerate 0 ds place d kept.0 in
          entry_is_told seen (place, d) (are.decided found.0 d found.2)

  branch_fits : (later stage : ℕ) (seen values : List ℤ) → In values (stage_outcomes stage ss)
      → is_branch (branch_after ds ss q later stage seen values) (branch_after ds ss p later stage seen values) ≡ true
  branch_fits later stage seen values within =
      branch_same (seen_entries (seen_after stage ss) values) (node_at ds ss q later (stage + 1) (seen ++ values)) (node_at ds ss p later (stage + 1) (seen ++ values))
      (each_seen (zip (seen_after stage ss) values) (are.seen stage values within))

  nodes_each : (later stage : ℕ) (seen : List ℤ) (outcomes : List (List ℤ))
      → ((values : List ℤ) → AreNodes (nodes_of later (facing (node_at ds ss q later (stage + 1) (seen ++ values)) (node_at ds ss p later (stage + 1) (seen ++ values)))))
      → AreNodes (pairwise (nodes_behind (nodes_of later)) (map (branch_after ds ss q later stage seen) outcomes) (map (branch_after ds ss p later stage seen) outcomes))
  nodes_each later stage seen [] each = tt
  nodes_each later stage seen (values ∷ outcomes) each =
      both_nodes (nodes_of later (facing (node_at ds ss q later (stage + 1) (seen ++ values)) (node_at ds ss p later (stage + 1) (seen ++ values)))) _ (each values)
      (nodes_each later stage seen outcomes each)

  pub nodes_fit : (later stage : ℕ) (seen : List ℤ) → AreNodes (nodes_of later (facing (node_at ds ss q later stage seen) (node_at ds ss p later stage seen)))
  nodes_fit zero stage seen = (node_same (decide_of ds q stage seen) (decide_of ds p stage seen) [] [] (decide_told stage seen) refl, tt)
  nodes_fit (suc later) stage seen =
      let ns : List Data = map (branch_after ds ss q later stage seen) (stage_outcomes stage ss) in
      let ms : List Data = map (branch_after ds ss p later stage seen) (stage_outcomes stage ss) in (
        node_same (decide_of ds q stage seen) (decide_of ds p stage seen) ns ms (decide_told stage seen)
            (alike_each is_branch (branch_after ds ss q later stage seen) (branch_after ds ss p later stage seen) (stage_outcomes stage ss) (branch_fits later stage seen)),
        subst AreNodes
            (sym (λ i. pairwise (nodes_behind (nodes_of later)) (unwrap_or (next_back (decide_of ds q stage seen) ns i) []) (unwrap_or (next_back (decide_of ds p stage seen) ms i) [])))
            (nodes_each later stage seen (stage_outcomes stage ss) (λ values. nodes_fit later (stage + 1) (seen ++ values))),
      )

  -- no node of what is printed differs from the form's
  pub none_different : (later stage : ℕ) (seen : List ℤ) → first_difference (nodes_of later (facing (node_at ds ss q later stage seen) (node_at ds ss p later stage seen))) ≡ None
  none_different later stage seen = none_differs _ (nodes_fit later stage seen) 0
