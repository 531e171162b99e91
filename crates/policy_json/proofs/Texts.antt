-- From the text of a policy's JSON back to the JSON: what stands in two texts of one shape can be told, whatever stands behind them.
use Rattle.std.proofs.Common.{◌≡◌, ◌≢◌, ◌+◌, ◌-◌, ◌^◌, ◌≤◌, ◌<◌, ◌++◌, ℕ, zero, suc, nat_eq, Bool, true, false, ℤ, pos, negsuc, ◌≤ℤ◌, List, [], ◌∷◌, map, slice_get, Option, Some, None, IfSome, unwrap_or, arith, inl, inr}
use Rattle.std.proofs.Common.{refl, sym, ap, subst, ◌∙◌, codes, zero-add}
use Rattle.std.proofs.lemmas.Fmt.{decimal_is_IsNumeral, signed_decimal_injective}
use Rattle.std.proofs.lemmas.Int.{ints}
use Rattle.std.proofs.lemmas.List.{append_assoc, append_cancel_left}
use Rattle.std.specs.Fmt.{decimal, signed_decimal}
use Rattle.std.specs.FinMap.{get}
use Rattle.std.specs.Int.Signed.{mag}
use Rattle.std.specs.List.{AllByRecursion, enumerate_from}
use Rattle.std.specs.Str.Parse.{AllDigits}
use Rattle.serde_json.specs.Data.{Data, string, array, object, Items, no_items, item, Members, no_members, member}
use Rattle.serde_json.specs.Find.{of_integer}
use Rattle.serde_json.specs.View.{items_of}
use Rattle.serde_json.specs.Written.{comma_if, compact_text, items_text, members_text, number_text}
use Rattle.sopl_ast.specs.Accepted.{AcceptedModel}
use Rattle.sopl_ast.specs.Instances.{Decision, Stochastic, Problem}
use Rattle.sopl_ast.specs.Limits.{Limits}
use Rattle.sopl_ast.specs.Policies.{Policy, IsInDomain, IsPolicy}
use Rattle.sopl_ast.specs.Whole.{ModelTree}
use Rattle.policy_tree.proofs.Members.{In, from_enumerate, from_filter}
use Rattle.unfold_laws.specs.Bounds.{IsBoundedDecision}
use Rattle.unfold_laws.specs.Passing.{IsConstant}
use Rattle.unfold_laws.proofs.Whole.{decisions_are_bounded}
use Rattle.policy_json.specs.Entries.{entry_of, list_of, seen_entries, whole_number}
use Rattle.policy_json.specs.LastStage.{last_stage}
use Rattle.policy_json.specs.Nodes.{branch_of, decide_of, decided_at, decision_entry, node_at, node_of, numbered_in_stage, policy_data, seen_after, stage_outcomes}
use Rattle.policy_json.proofs.Branches.{branch_after}
use Rattle.policy_json.proofs.Printed.{accepted_json, first_of, later_of}

-- where the texts of these, each with something behind it, are the same, the two are the same and so is what stands behind them
abbrev pub AreTold : Data → Data → Type 0
AreTold d e = (r s : List ℕ) → compact_text d ++ r ≡ compact_text e ++ s → (d ≡ e) × (r ≡ s)

abbrev ItemsAreTold : Bool → Items → Items → Type 0
ItemsAreTold later ds es = (r s : List ℕ) → items_text later ds ++ r ≡ items_text later es ++ s → (ds ≡ es) × (r ≡ s)

abbrev pub MembersAreTold : Bool → Members → Members → Type 0
MembersAreTold later ms ns = (r s : List ℕ) → members_text later ms ++ r ≡ members_text later ns ++ s → (ms ≡ ns) × (r ≡ s)

cancel : (x a b r s : List ℕ) → (x ++ a) ++ r ≡ (x ++ b) ++ s → a ++ r ≡ b ++ s
cancel x a b r s is = append_cancel_left x (a ++ r) (b ++ s) (sym (append_assoc x a r) ∙ is ∙ append_assoc x b s)

-- data are told alike by themselves, by their items and by their members
pub told_self : (d : Data) → AreTold d d
told_self d r s is = (refl, append_cancel_left (compact_text d) r s is)

told_array : (ds es : Items) → ItemsAreTold false ds es → AreTold (array ds) (array es)
told_array ds es items r s is = let told = items r s (ap later_of is) in (ap array told.0, told.1)

pub told_object : (ms ns : Members) → MembersAreTold false ms ns → AreTold (object ms) (object ns)
told_object ms ns members r s is = let told = members r s (ap later_of is) in (ap object told.0, told.1)

told_no_items : (later : Bool) → ItemsAreTold later no_items no_items
told_no_items later r s is = (refl, ap later_of is)

pub told_no_members : (later : Bool) → MembersAreTold later no_members no_members
told_no_members later r s is = (refl, ap later_of is)

told_item : (later : Bool) (d e : Data) (ds es : Items) → AreTold d e → ItemsAreTold true ds es → ItemsAreTold later (item d ds) (item e es)
told_item later d e ds es one more r s is =
    let first : (d ≡ e) × (items_text true ds ++ r ≡ items_text true es ++ s) =
    one (items_text true ds ++ r) (items_text true es ++ s)
    (sym (append_assoc (compact_text d) (items_text true ds) r)
    ∙ cancel (comma_if later) (compact_text d ++ items_text true ds) (compact_text e ++ items_text true es) r s is
    ∙ append_assoc (compact_text e) (items_text true es) s) in
    let rest : (ds ≡ es) × (r ≡ s) = more r s first.1 in
    ((λ i. item (first.0 i) (rest.0 i)), rest.1)

pub told_member : (later : Bool) (k : List ℕ) (d e : Data) (ms ns : Members) → AreTold d e → MembersAreTold true ms ns → MembersAreTold later (member k d ms) (member k e ns)
told_member later k d e ms ns one more r s is =
    let first : (d ≡ e) × (members_text true ms ++ r ≡ members_text true ns ++ s) =
    one (members_text true ms ++ r) (members_text true ns ++ s)
    (sym (append_assoc (compact_text d) (members_text true ms) r)
    ∙ ap later_of (cancel (compact_text (string k)) (58 ∷ (compact_text d ++ members_text true ms)) (58 ∷ (compact_text e ++ members_text true ns)) r s
    (cancel (comma_if later) (compact_text (string k) ++ 58 ∷ (compact_text d ++ members_text true ms)) (compact_text (string k) ++ 58 ∷ (compact_text e ++ members_text true ns)) r s is))
    ∙ append_assoc (compact_text e) (members_text true ns) s) in
    let rest : (ms ≡ ns) × (r ≡ s) = more r s first.1 in
    ((λ i. member k (first.0 i) (rest.0 i)), rest.1)

told_map : {A : Type 0} (f g : A → Data) (xs : List A) (later : Bool) → ((x : A) → In x xs → AreTold (f x) (g x)) → ItemsAreTold later (items_of (map f xs)) (items_of (map g xs))
told_map f g [] later each = told_no_items later
told_map f g (x ∷ xs) later each =
    told_item later (f x) (g x) (items_of (map f xs)) (items_of (map g xs)) (each x (inl refl)) (told_map f g xs true (λ y h. each y (inr h)))

-- none of these bytes closes a list
abbrev StaysOpen : List ℕ → Type 0
StaysOpen [] = Unit {0}
StaysOpen (b ∷ bs) = (b ≢ 93) × StaysOpen bs

open_digits : (ds : List ℕ) → AllDigits 10 ds → StaysOpen ds
open_digits [] all = tt
open_digits (d ∷ ds) all = ((λ is. absurd (omega (arith, subst (λ b. AllDigits 10 (b ∷ [])) is (all.0, tt)))), open_digits ds all.1)

open_number : (z : ℤ) → mag z < 2 ^ 63 → StaysOpen (number_text (of_integer z))
open_number (pos n) small = open_digits (decimal n) (decimal_is_IsNumeral n (omega arith)).0.1
open_number (negsuc n) small = ((λ is. absurd (omega (arith, is))), open_digits (decimal (suc n)) (decimal_is_IsNumeral (suc n) (omega arith)).0.1)

closed_once : (a b r s : List ℕ) → StaysOpen a → StaysOpen b → (a ++ 93 ∷ []) ++ r ≡ (b ++ 93 ∷ []) ++ s → (a ≡ b) × (r ≡ s)
closed_once [] [] r s f g is = (refl, ap later_of is)
closed_once [] (y ∷ b) r s f g is = absurd (g.0 (sym (ap (first_of 0) is)))
closed_once (x ∷ a) [] r s f g is = absurd (f.0 (ap (first_of 0) is))
closed_once (x ∷ a) (y ∷ b) r s f g is =
    let rest : (a ≡ b) × (r ≡ s) = closed_once a b r s f.1 g.1 (ap later_of is) in
    let first : x ≡ y = ap (first_of 0) is in
    ((λ i. first i ∷ rest.0 i), rest.1)

digits_in : (z : ℤ) → number_text (of_integer z) ≡ signed_decimal z
digits_in (pos n) = refl
digits_in (negsuc n) = refl

-- the value at the end of an entry
told_value : (v w : ℤ) → mag v < 2 ^ 63 → mag w < 2 ^ 63 → ItemsAreTold true (item (whole_number v) no_items) (item (whole_number w) no_items)
told_value v w v_small w_small r s is =
    let told : (number_text (of_integer v) ≡ number_text (of_integer w)) × (r ≡ s) =
    closed_once (number_text (of_integer v)) (number_text (of_integer w)) r s (open_number v v_small) (open_number w w_small) (ap later_of is) in
    let same : v ≡ w = signed_decimal_injective v w v_small w_small (sym (digits_in v) ∙ told.0 ∙ digits_in w) in
    (ap (λ z. item (whole_number z) no_items) same, told.1)

told_entry : (name : List ℕ) (index : List ℤ) (v w : ℤ) → mag v < 2 ^ 63 → mag w < 2 ^ 63 → AreTold (entry_of name index v) (entry_of name index w)
told_entry name index v w v_small w_small =
    let indices : Data = list_of (map whole_number index) in
    told_array (items_of (string name ∷ indices ∷ whole_number v ∷ [])) (items_of (string name ∷ indices ∷ whole_number w ∷ []))
    (told_item false (string name) (string name) (items_of (indices ∷ whole_number v ∷ [])) (items_of (indices ∷ whole_number w ∷ [])) (told_self (string name))
    (told_item true indices indices (items_of (whole_number v ∷ [])) (items_of (whole_number w ∷ [])) (told_self indices) (told_value v w v_small w_small)))

told_node : (xs ys ns ms : List Data) → ItemsAreTold false (items_of xs) (items_of ys) → ItemsAreTold false (items_of ns) (items_of ms) → AreTold (node_of xs ns) (node_of ys ms)
told_node xs ys ns ms decide next =
    told_object (member (codes "decide") (list_of xs) (member (codes "next") (list_of ns) no_members)) (member (codes "decide") (list_of ys) (member (codes "next") (list_of ms) no_members))
    (told_member false (codes "decide") (list_of xs) (list_of ys) (member (codes "next") (list_of ns) no_members) (member (codes "next") (list_of ms) no_members)
    (told_array (items_of xs) (items_of ys) decide)
    (told_member true (codes "next") (list_of ns) (list_of ms) no_members no_members (told_array (items_of ns) (items_of ms) next) (told_no_members true)))

told_branch : (seen : List Data) (d e : Data) → AreTold d e → AreTold (branch_of seen d) (branch_of seen e)
told_branch seen d e node =
    told_object (member (codes "seen") (list_of seen) (member (codes "then") d no_members)) (member (codes "seen") (list_of seen) (member (codes "then") e no_members))
    (told_member false (codes "seen") (list_of seen) (list_of seen) (member (codes "then") d no_members) (member (codes "then") e no_members) (told_self (list_of seen))
    (told_member true (codes "then") d e no_members no_members node (told_no_members true)))

-- what a policy decides is small
abbrev DecidesSmall : List Decision → Policy → Type 0
DecidesSmall ds policy = (place : ℕ) (d : Decision) → In (place, d) (enumerate_from 0 ds) → (seen : List ℤ) → mag (decided_at policy place seen) < 2 ^ 63

module _ (ds : List Decision) (ss : List Stochastic) (p q : Policy) (p_small : DecidesSmall ds p) (q_small : DecidesSmall ds q) where
  told_decide : (stage : ℕ) (seen : List ℤ) → ItemsAreTold false (items_of (decide_of ds p stage seen)) (items_of (decide_of ds q stage seen))
  told_decide stage seen =
      told_map (decision_entry p seen) (decision_entry q seen) (numbered_in_stage stage (enumerate_from 0 ds)) false
      (λ (nd : ℕ × Decision) within.
      let stands : In nd (enumerate_from 0 ds) = (from_filter (λ (md : ℕ × Decision). nat_eq md.1.stage stage) (enumerate_from 0 ds) nd within).0 in
      told_entry nd.1.name nd.1.index (decided_at p nd.0 seen) (decided_at q nd.0 seen) (p_small nd.0 nd.1 stands seen) (q_small nd.0 nd.1 stands seen))

  pub told_nodes : (later stage : ℕ) (seen : List ℤ) → AreTold (node_at ds ss p later stage seen) (node_at ds ss q later stage seen)
  told_nodes zero stage seen = told_node (decide_of ds p stage seen) (decide_of ds q stage seen) [] [] (told_decide stage seen) (told_no_items false)
  told_nodes (suc later) stage seen =
      told_node (decide_of ds p stage seen) (decide_of ds q stage seen) (map (branch_after ds ss p later stage seen) (stage_outcomes stage ss))
      (map (branch_after ds ss q later stage seen) (stage_outcomes stage ss)) (told_decide stage seen)
      (told_map (branch_after ds ss p later stage seen) (branch_after ds ss q later stage seen) (stage_outcomes stage ss) false
      (λ values within. told_branch (seen_entries (seen_after stage ss) values) (node_at ds ss p later (stage + 1) (seen ++ values)) (node_at ds ss q later (stage + 1) (seen ++ values))
      (told_nodes later (stage + 1) (seen ++ values))))

-- a number between two that constants have
small_between : (lo v hi : ℤ) → IsConstant lo → IsConstant hi → lo ≤ℤ v → v ≤ℤ hi → mag v < 2 ^ 63
small_between lo (pos n) (pos m) least greatest above below = let order : n ≤ m = omega (arith, ints, below) in omega (arith, greatest, order)
small_between lo (pos n) (negsuc m) least greatest above below = absurd (omega (arith, ints, below))
small_between (pos m) (negsuc n) hi least greatest above below = absurd (omega (arith, ints, above))
small_between (negsuc m) (negsuc n) hi least greatest above below = let order : n ≤ m = omega (arith, ints, above) in omega (arith, least, order)

bounded_at : (ds : List Decision) (i : ℕ) (d : Decision) → AllByRecursion IsBoundedDecision ds → slice_get ds i ≡ Some d → IsBoundedDecision d
bounded_at [] i d all is = cc
bounded_at (e ∷ ds) zero d all is = subst IsBoundedDecision (ap (λ o. unwrap_or o e) is) all.0
bounded_at (e ∷ ds) (suc i) d all is = bounded_at ds i d all.1 is

-- so is what a policy of bounded decisions decides
pub decides_small : (problem : Problem) (policy : Policy) → AllByRecursion IsBoundedDecision problem.decisions → IsPolicy problem policy → DecidesSmall problem.decisions policy
decides_small problem policy bounded is place d within seen = by (get policy (place, seen)) (is.values (place, seen))
  where
    by : (o : Option ℤ) → IfSome o (λ value. IsInDomain problem place value) → mag (unwrap_or o (pos 0)) < 2 ^ 63
    by None none = omega arith
    by (Some v) inside =
        let placed : (i : ℕ) × (place ≡ 0 + i) × (slice_get problem.decisions i ≡ Some d) = from_enumerate 0 problem.decisions place d within in
        let decided : slice_get problem.decisions place ≡ Some d = subst (λ n. slice_get problem.decisions n ≡ Some d) (sym (placed.1 ∙ zero-add placed.0)) placed.2 in
        let between : (d.lo ≤ℤ v) × (v ≤ℤ d.hi) = subst (λ (o : Option Decision). IfSome o (λ (e : Decision). (e.lo ≤ℤ v) × (v ≤ℤ e.hi))) decided inside in
        let of : IsBoundedDecision d = bounded_at problem.decisions place d bounded decided in
        small_between d.lo v d.hi of.least of.greatest between.0 between.1

-- policies of an accepted model are told, and so the text of one is its alone
pub policies_told : (limits : Limits) (model : ModelTree) (problem : Problem) → AcceptedModel limits model problem → (p q : Policy) → IsPolicy problem p → IsPolicy problem q
    → AreTold (policy_data problem p) (policy_data problem q)
policies_told limits model problem accepted p q is_p is_q =
    let Bounded : Problem → Type 0 = λ (x : Problem). AllByRecursion IsBoundedDecision x.decisions in
    let bounded : AllByRecursion IsBoundedDecision problem.decisions = subst Bounded accepted.stated (decisions_are_bounded model accepted.unfolded) in
    told_nodes problem.decisions problem.stochastics p q (decides_small problem p bounded is_p) (decides_small problem q bounded is_q) (last_stage problem.decisions - 1) 1 []

pub accepted_texts : (limits : Limits) (model : ModelTree) (problem : Problem) → AcceptedModel limits model problem → (p q : Policy) → IsPolicy problem p → IsPolicy problem q
    → (r s : List ℕ) → compact_text (policy_data problem p) ++ r ≡ compact_text (policy_data problem q) ++ s → p ≡ q
accepted_texts limits model problem accepted p q is_p is_q r s is =
    accepted_json limits model problem accepted p q is_p is_q (policies_told limits model problem accepted p q is_p is_q r s is).0
