-- A text that does not differ from a form tells one value of each cell, and has what is printed of the point of these values.
use Rattle.std.proofs.Common.{arith, ◌≡◌, ◌≢◌, ◌∙◌, ◌+◌, ◌++◌, ◌≤◌, ◌<◌, ℕ, zero, suc, ℤ, pos, List, [], ◌∷◌, map, filter, cond, length, take, get_or, Bool, true, false, Option, Some, option_map, unwrap_or, nat_eq, inl, inr, refl, sym, ap, subst, slice_get, true≢false, append_assoc}
use Rattle.std.proofs.lemmas.Bool.{eqb-true}
use Rattle.std.proofs.lemmas.Grind.{flat_map-append}
use Rattle.std.proofs.lemmas.List.{append-nil, append_cancel_left, take_at}
use Rattle.std.proofs.Math.Nat.{zero-add}
use Rattle.std.specs.List.{AllByRecursion, IsDistinct, enumerate_from, zip}
use Rattle.std.specs.Option.{option_map_or}
use Rattle.serde_json.specs.Data.{Data, no_items}
use Rattle.serde_json.specs.View.{items_of}
use Rattle.sopl_base.proofs.Lists.{all_append, all_filter}
use Rattle.sopl_ast.specs.Histories.{same_values}
use Rattle.sopl_ast.specs.Instances.{Decision, Problem, Stochastic}
use Rattle.sopl_ast.specs.Policies.{IsKey, Key, Policy}
use Rattle.unfold_laws.specs.Bounds.{IsBoundedStochastic}
use Rattle.scen_laws.proofs.Rows.{rows_differ}
use Rattle.policy_tree.proofs.Members.{In, from_enumerate, from_filter}
use Rattle.policy_tree.proofs.Once.{Once, same_is}
use Rattle.policy_json.specs.Entries.{entry_of, seen_entries}
use Rattle.policy_json.specs.Nodes.{decide_of, decided_at, decision_entry, node_at, node_of, numbered_in_stage, seen_after, stage_outcomes}
use Rattle.policy_json.specs.Staged.{IsStaged}
use Rattle.policy_json.proofs.Held.{is_key, next_seen}
use Rattle.policy_json.proofs.Branches.{branch_after}
use Rattle.policy_json.proofs.Chosen.{AreChosen, outcome_chosen}
use Rattle.policy_read.specs.declared.entry.Told.{Told}
use Rattle.policy_read.specs.Listed.{alike, pairwise}
use Rattle.policy_read.specs.Entries.{is_told, same_seen, told_at, told_in}
use Rattle.policy_read.specs.Forms.{Facing, all_told, facing, is_branch, is_node, nodes_behind, nodes_from, nodes_of, told_by, told_list}
use Rattle.policy_read.specs.Having.{Has, HasItems}
use Rattle.policy_read.proofs.Printing.{AreNodes, AreReadBack, IsReadBack, decide_back, next_back}
use Rattle.policy_read.proofs.Having.{IsBranchOf, IsEntry, IsNodeOf, both, branch_has, branch_there, entry_there, node_has, node_there, refuted, seen_there}
use Rattle.policy_read.proofs.Apart.{Apart, apart_both, weaker}
use Rattle.policy_read.proofs.Visited.{IsSeen, first_all, pos_of, second_all}

-- a node that does not differ
abbrev IsNode : Facing → Type 0
IsNode h = is_node h ≡ true

-- lists of which no two are the same
differ_none : (x : List ℤ) (ys : List (List ℤ)) → AllByRecursion (λ y. same_values x y ≡ false) ys → In x ys → ⊥
differ_none x [] all within = within
differ_none x (y ∷ ys) all (inl is) = true≢false (sym ((same_is x y).1 (sym is)) ∙ all.0)
differ_none x (y ∷ ys) all (inr within) = differ_none x ys all.1 within

once_of : (xss : List (List ℤ)) → IsDistinct same_values xss → Once xss
unfolding IsDistinct
once_of [] distinct = tt
once_of (x ∷ xss) distinct = (differ_none x xss distinct.0, once_of xss distinct.1)

chosen_long : (ss : List Stochastic) (vs : List ℤ) → AreChosen ss vs → length vs ≡ length ss
chosen_long [] [] chosen = refl
chosen_long [] (v ∷ vs) chosen = absurd chosen
chosen_long (s ∷ ss) [] chosen = absurd chosen
chosen_long (s ∷ ss) (v ∷ vs) chosen = ap suc (chosen_long ss vs chosen.1)

-- where two lists that are the same begin with lists of one length, these are the same
front_same : (seen vs us r s : List ℤ) → length vs ≡ length us → (seen ++ vs) ++ r ≡ (seen ++ us) ++ s → vs ≡ us
front_same seen vs us r s long is =
    let rest : vs ++ r ≡ us ++ s = append_cancel_left seen (vs ++ r) (us ++ s) (sym (append_assoc seen vs r) ∙ is ∙ append_assoc seen us s) in
    sym (take_at vs r (length us) long) ∙ ap (take (length us)) rest ∙ take_at us s (length us) refl

-- entries of what is seen
seen_have : (xs : List (Stochastic × ℤ)) (es : List Data) → AllByRecursion (λ (s : Stochastic × ℤ). AllByRecursion IsReadBack s.0.index × IsReadBack s.1) xs
    → alike same_seen (map (λ (s : Stochastic × ℤ). entry_of s.0.name s.0.index s.1) xs) es ≡ true
    → HasItems (items_of (map (λ (s : Stochastic × ℤ). entry_of s.0.name s.0.index s.1) xs)) es
seen_have [] [] all is = tt
seen_have [] (e ∷ es) all is = refuted is
seen_have (s ∷ xs) [] all is = refuted is
seen_have (s ∷ xs) (e ∷ es) all is =
    let split = both (same_seen (entry_of s.0.name s.0.index s.1) e) (alike same_seen (map (λ (t : Stochastic × ℤ). entry_of t.0.name t.0.index t.1) xs) es) is in
    (seen_there s.0.name s.0.index all.0.0 s.1 all.0.1 e split.0, seen_have xs es all.1 split.1)

none_there : (es : List Data) → alike is_branch [] es ≡ true → HasItems no_items es
none_there [] is = tt
none_there (e ∷ es) is = refuted is

-- the numbers of decisions ascend
abbrev Rising : ℕ → List (ℕ × Decision) → Type 0
Rising from [] = Unit {0}
Rising from (nd ∷ nds) = (from ≤ nd.0) × Rising (nd.0 + 1) nds

rising : (p : ℕ × Decision → Bool) (ds : List Decision) (n from : ℕ) → from ≤ n → Rising from (filter p (enumerate_from n ds))
rising p [] n from order = tt
rising p (d ∷ ds) n from order =
    elim (p (n, d)) as (λ b. Rising from (cond b ((n, d) ∷ filter p (enumerate_from (n + 1) ds)) (filter p (enumerate_from (n + 1) ds)))) [
      | true ↦ (order, rising p ds (n + 1) (n + 1) (omega arith))
      | false ↦ rising p ds (n + 1) from (omega (arith, order))
    ]

module _ (problem : Problem) (q p : Policy) (values : List ℤ) (are : AreReadBack problem.decisions problem.stochastics q p) (staged : IsStaged problem)
    (bounded : AllByRecursion IsBoundedStochastic problem.stochastics)
    (one : (a b : Key) → IsKey problem a → IsKey problem b → decided_at q a.0 a.1 ≡ decided_at q b.0 b.1 → a ≡ b)
    (at : (key : Key) → IsKey problem key → (i : ℕ) × (i < length values) × (decided_at q key.0 key.1 ≡ pos i) × (decided_at p key.0 key.1 ≡ get_or values i (pos 0))) where
  abbrev ds : List Decision
  ds = problem.decisions

  abbrev ss : List Stochastic
  ss = problem.stochastics

  -- a value that is told of a decision of this stage or a later one, at a history that begins so
  pub record IsKeyed (stage : ℕ) (seen : List ℤ) (t : Told) : Type 0 where
    pub place : ℕ
    pub history : List ℤ
    pub rest : List ℤ
    pub d : Decision
    pub begins : history ≡ seen ++ rest
    pub key : IsKey problem (place, history)
    pub numbered : decided_at q place history ≡ pos t.cell
    pub decided : slice_get ds place ≡ Some d
    pub later : stage ≤ d.stage

  same_keys : (a b : Key) (t u : Told) → IsKey problem a → IsKey problem b → decided_at q a.0 a.1 ≡ pos t.cell → decided_at q b.0 b.1 ≡ pos u.cell → u.cell ≡ t.cell → a ≡ b
  same_keys a b t u is_a is_b of_a of_b same = one a b is_a is_b (of_a ∙ ap pos (sym same) ∙ sym of_b)

  -- a decision of a stage, at a history that is seen then
  pub record IsOf (stage : ℕ) (seen : List ℤ) (nd : ℕ × Decision) : Type 0 where
    pub decided : slice_get ds nd.0 ≡ Some nd.1
    pub here : nd.1.stage ≡ stage
    pub key : IsKey problem (nd.0, seen)
    pub back : AllByRecursion IsReadBack nd.1.index

  decision_there : (stage : ℕ) (seen : List ℤ) → IsSeen problem stage seen → (nd : ℕ × Decision) → In nd (numbered_in_stage stage (enumerate_from 0 ds)) → IsOf stage seen nd
  decision_there stage seen possible (place, d) within =
      let kept = from_filter (λ (nd : ℕ × Decision). nat_eq nd.1.stage stage) (enumerate_from 0 ds) (place, d) within in
      let found : (i : ℕ) × (place ≡ 0 + i) × (slice_get ds i ≡ Some d) = from_enumerate 0 ds place d kept.0 in
      let Holds : ℕ → Type 0 = λ n. slice_get ds n ≡ Some d in
      let decided : slice_get ds place ≡ Some d = subst Holds (sym (found.1 ∙ zero-add found.0)) found.2 in
      let here : d.stage ≡ stage = eqb-true d.stage stage kept.1 in
      record { decided = decided; here = here; key = is_key problem place stage d seen decided here possible; back = are.decided place d decided }

  -- the value that one entry tells
  pub record Entry (seen : List ℤ) (nd : ℕ × Decision) (e : Data) : Type 0 where
    pub cell : ℕ
    pub value : ℤ
    pub numbered : decided_at q nd.0 seen ≡ pos cell
    pub listed : told_list (decision_entry q seen nd) e ≡ told_at cell value ∷ []
    pub has : (w : ℤ) → IsReadBack w → value ≡ w → Has (entry_of nd.1.name nd.1.index w) e

  entry_of_form : (stage : ℕ) (seen : List ℤ) (nd : ℕ × Decision) (e : Data) → IsOf stage seen nd → is_told (decision_entry q seen nd) e ≡ true → Entry seen nd e
  entry_of_form stage seen nd e of told =
      let number : (c : ℕ) × (decided_at q nd.0 seen ≡ pos c) = are.numbers nd.0 seen in
      let is : IsEntry nd.1.name nd.1.index of.back number.0 e =
      entry_there nd.1.name nd.1.index of.back number.0 e (sym (ap (λ z. is_told (entry_of nd.1.name nd.1.index z) e) number.1) ∙ told) in
      record {
        cell = number.0;
        value = is.value;
        numbered = number.1;
        listed = (λ k. option_map_or (λ (t : Told). t ∷ []) (told_in (entry_of nd.1.name nd.1.index (number.1 k)) e) [])
            ∙ ap (λ o. option_map_or (λ (t : Told). t ∷ []) o []) is.told;
        has = is.has;
      }

  -- the values that a node tells: each of another decision
  pub record IsOwn (from stage : ℕ) (seen : List ℤ) (t : Told) : Type 0 where
    pub place : ℕ
    pub d : Decision
    pub order : from ≤ place
    pub key : IsKey problem (place, seen)
    pub numbered : decided_at q place seen ≡ pos t.cell
    pub decided : slice_get ds place ≡ Some d
    pub here : d.stage ≡ stage

  own_more : (from n stage : ℕ) (seen : List ℤ) (t : Told) → from ≤ n → IsOwn n stage seen t → IsOwn from stage seen t
  own_more from n stage seen t order own =
      record { place = own.place; d = own.d; order = omega (arith, order, own.order); key = own.key; numbered = own.numbered; decided = own.decided; here = own.here }

  own_keyed : (from stage : ℕ) (seen : List ℤ) (t : Told) → IsOwn from stage seen t → IsKeyed stage seen t
  own_keyed from stage seen t own =
      record {
        place = own.place;
        history = seen;
        rest = [];
        d = own.d;
        begins = sym (append-nil seen);
        key = own.key;
        numbered = own.numbered;
        decided = own.decided;
        later = omega (arith, own.here);
      }

  entries_apart : (stage : ℕ) (seen : List ℤ) (from : ℕ) (nds : List (ℕ × Decision)) (es : List Data) → Rising from nds → ((nd : ℕ × Decision) → In nd nds → IsOf stage seen nd)
      → alike is_told (map (decision_entry q seen) nds) es ≡ true
      → Apart (pairwise told_list (map (decision_entry q seen) nds) es) × AllByRecursion (IsOwn from stage seen) (pairwise told_list (map (decision_entry q seen) nds) es)
  entries_apart stage seen from [] es rise each told = (tt, tt)
  entries_apart stage seen from (nd ∷ nds) [] rise each told = refuted told
  entries_apart stage seen from (nd ∷ nds) (e ∷ es) rise each told =
      let split = both (is_told (decision_entry q seen nd) e) (alike is_told (map (decision_entry q seen) nds) es) told in
      let of : IsOf stage seen nd = each nd (inl refl) in
      let entry : Entry seen nd e = entry_of_form stage seen nd e of split.0 in
      let more : List Told = pairwise told_list (map (decision_entry q seen) nds) es in
      let later = entries_apart stage seen (nd.0 + 1) nds es rise.1 (λ other within. each other (inr within)) split.1 in
      let differ : (u : Told) → IsOwn (nd.0 + 1) stage seen u → u.cell ≢ entry.cell =
      λ u own same. (
      let keys : (nd.0, seen) ≡ (own.place, seen) = same_keys (nd.0, seen) (own.place, seen) (told_at entry.cell entry.value) u of.key own.key entry.numbered own.numbered same in
      let places : nd.0 ≡ own.place = ap (λ (k : Key). k.0) keys in
      omega (arith, places, own.order)
      ) in
      let Both : List Told → Type 0 = λ ts. Apart (ts ++ more) × AllByRecursion (IsOwn from stage seen) (ts ++ more) in
      let own : IsOwn from stage seen (told_at entry.cell entry.value) =
      record { place = nd.0; d = nd.1; order = rise.0; key = of.key; numbered = entry.numbered; decided = of.decided; here = of.here } in
      subst Both (sym entry.listed) (
        (weaker (IsOwn (nd.0 + 1) stage seen) (λ (u : Told). u.cell ≢ entry.cell) more differ later.1, later.0),
        (own, weaker (IsOwn (nd.0 + 1) stage seen) (IsOwn from stage seen) more (λ u is. own_more from (nd.0 + 1) stage seen u (omega (arith, rise.0)) is) later.1),
      )

  abbrev pub decide : ℕ → List ℤ → List Data
  decide stage seen = decide_of ds q stage seen

  abbrev pub branches : ℕ → ℕ → List ℤ → List (List ℤ) → List Data
  branches later stage seen outcomes = map (branch_after ds ss q later stage seen) outcomes

  -- the values that all nodes tell are of different cells, of this stage or a later one
  pub record IsWalked (stage : ℕ) (seen : List ℤ) (ts : List Told) : Type 0 where
    pub apart : Apart ts
    pub keyed : AllByRecursion (IsKeyed stage seen) ts

  -- the values of one node, with those of the nodes after it
  own_walked : (stage : ℕ) (seen : List ℤ) → IsSeen problem stage seen → (es : List Data) (ts : List Told) → alike is_told (decide stage seen) es ≡ true → Apart ts
      → AllByRecursion (IsKeyed (stage + 1) seen) ts → IsWalked stage seen (pairwise told_list (decide stage seen) es ++ ts)
  own_walked stage seen possible es ts told apart keyed =
      let nds : List (ℕ × Decision) = numbered_in_stage stage (enumerate_from 0 ds) in
      let mine : List Told = pairwise told_list (decide stage seen) es in
      let own = entries_apart stage seen 0 nds es (rising (λ (nd : ℕ × Decision). nat_eq nd.1.stage stage) ds 0 0 (omega arith)) (decision_there stage seen possible) told in
      let differ : (x u : Told) → IsOwn 0 stage seen x → IsKeyed (stage + 1) seen u → u.cell ≢ x.cell =
      λ x u mine_is is same. (
      let keys : (mine_is.place, seen) ≡ (is.place, is.history) = same_keys (mine_is.place, seen) (is.place, is.history) x u mine_is.key is.key mine_is.numbered is.numbered same in
      let places : mine_is.place ≡ is.place = ap (λ (k : Key). k.0) keys in
      let decisions : Some mine_is.d ≡ Some is.d = sym mine_is.decided ∙ ap (slice_get ds) places ∙ is.decided in
      let stages : mine_is.d.stage ≡ is.d.stage = ap (λ (o : Option Decision). (unwrap_or o is.d).stage) decisions in
      omega (arith, stages, mine_is.here, is.later)
      ) in
      record {
        apart = apart_both (IsOwn 0 stage seen) (IsKeyed (stage + 1) seen) mine ts differ own.0 apart own.1 keyed;
        keyed = all_append (IsKeyed stage seen) mine ts (weaker (IsOwn 0 stage seen) (IsKeyed stage seen) mine (own_keyed 0 stage seen) own.1)
            (weaker (IsKeyed (stage + 1) seen) (IsKeyed stage seen) ts (earlier stage seen) keyed);
      }
    where
      earlier : (stage : ℕ) (seen : List ℤ) (t : Told) → IsKeyed (stage + 1) seen t → IsKeyed stage seen t
      earlier stage seen t is =
          record {
            place = is.place;
            history = is.history;
            rest = is.rest;
            d = is.d;
            begins = is.begins;
            key = is.key;
            numbered = is.numbered;
            decided = is.decided;
            later = omega (arith, is.later);
          }

  told_here : (stage : ℕ) (seen : List ℤ) (next : List Data) (given : Data) (of : IsNodeOf (decide stage seen) next given)
      → told_by (facing (node_of (decide stage seen) next) given) ≡ pairwise told_list (decide stage seen) of.entries
  told_here stage seen next given of =
      λ i. pairwise told_list (unwrap_or (decide_back (decide stage seen) next i) []) (unwrap_or (of.decided i) [])

  -- the nodes of the last stage, and the nodes of another one
  abbrev pub last_nodes : ℕ → List ℤ → Data → List Facing
  last_nodes stage seen given = nodes_of 0 (facing (node_at ds ss q 0 stage seen) given)

  abbrev pub more_nodes : ℕ → ℕ → List ℤ → Data → List Facing
  more_nodes later stage seen given = nodes_of (suc later) (facing (node_at ds ss q (suc later) stage seen) given)

  abbrev pub nodes_after : ℕ → ℕ → List ℤ → List (List ℤ) → List Data → List Facing
  nodes_after later stage seen outcomes es = pairwise (nodes_behind (nodes_of later)) (branches later stage seen outcomes) es

  -- where no node differs: the lists of the first one, and what all of them tell
  pub record IsLast (stage : ℕ) (seen : List ℤ) (given : Data) : Type 0 where
    pub of : IsNodeOf (decide stage seen) [] given
    pub told : all_told (last_nodes stage seen given) ≡ pairwise told_list (decide stage seen) of.entries ++ []

  pub record IsMore (later stage : ℕ) (seen : List ℤ) (given : Data) : Type 0 where
    pub of : IsNodeOf (decide stage seen) (branches later stage seen (stage_outcomes stage ss)) given
    pub after : AreNodes (nodes_after later stage seen (stage_outcomes stage ss) of.branches)
    pub told : all_told (more_nodes later stage seen given)
        ≡ pairwise told_list (decide stage seen) of.entries ++ all_told (nodes_after later stage seen (stage_outcomes stage ss) of.branches)

  is_last : (stage : ℕ) (seen : List ℤ) (given : Data) → AreNodes (last_nodes stage seen given) → IsLast stage seen given
  is_last stage seen given nodes =
      let of : IsNodeOf (decide stage seen) [] given = node_there (decide stage seen) [] given nodes.0 in
      record { of = of; told = ap (λ ts. ts ++ []) (told_here stage seen [] given of) }

  is_more : (later stage : ℕ) (seen : List ℤ) (given : Data) → AreNodes (more_nodes later stage seen given) → IsMore later stage seen given
  is_more later stage seen given nodes =
      let next : List Data = branches later stage seen (stage_outcomes stage ss) in
      let here : Facing = facing (node_at ds ss q (suc later) stage seen) given in
      let of : IsNodeOf (decide stage seen) next given = node_there (decide stage seen) next given nodes.0 in
      let after : List Facing = nodes_after later stage seen (stage_outcomes stage ss) of.branches in
      let same : more_nodes later stage seen given ≡ here ∷ after =
      λ i. here ∷ pairwise (nodes_behind (nodes_of later)) (unwrap_or (next_back (decide stage seen) next i) []) (unwrap_or (of.branched i) []) in
      let moved : AreNodes (here ∷ after) = subst AreNodes same nodes in
      record { of = of; after = moved.1; told = ap all_told same ∙ ap (λ ts. ts ++ all_told after) (told_here stage seen next given of) }

  -- the nodes after one branch
  behind_branch : (later stage : ℕ) (seen vs : List ℤ) (e : Data) (of : IsBranchOf (seen_entries (seen_after stage ss) vs) e)
      → nodes_behind (nodes_of later) (branch_after ds ss q later stage seen vs) e ≡ nodes_of later (facing (node_at ds ss q later (stage + 1) (seen ++ vs)) of.node)
  behind_branch later stage seen vs e of =
      ap (λ o. nodes_from (nodes_of later) (option_map (facing (node_at ds ss q later (stage + 1) (seen ++ vs))) o)) of.leads

  -- a value after one of these outcomes
  pub record IsBehind (stage : ℕ) (seen : List ℤ) (outcomes : List (List ℤ)) (t : Told) : Type 0 where
    pub outcome : List ℤ
    pub within : In outcome outcomes
    pub keyed : IsKeyed (stage + 1) (seen ++ outcome) t

  behind_seen : (stage : ℕ) (seen : List ℤ) (outcomes : List (List ℤ)) (t : Told) → IsBehind stage seen outcomes t → IsKeyed (stage + 1) seen t
  behind_seen stage seen outcomes t is =
      record {
        place = is.keyed.place;
        history = is.keyed.history;
        rest = is.outcome ++ is.keyed.rest;
        d = is.keyed.d;
        begins = is.keyed.begins ∙ append_assoc seen is.outcome is.keyed.rest;
        key = is.keyed.key;
        numbered = is.keyed.numbered;
        decided = is.keyed.decided;
        later = is.keyed.later;
      }

  branches_apart : (later stage : ℕ) (seen : List ℤ) (outcomes : List (List ℤ)) (es : List Data) → Once outcomes
      → ((vs : List ℤ) → In vs outcomes → length vs ≡ length (seen_after stage ss))
      → ((vs : List ℤ) → In vs outcomes → (given : Data) → AreNodes (nodes_of later (facing (node_at ds ss q later (stage + 1) (seen ++ vs)) given))
      → IsWalked (stage + 1) (seen ++ vs) (all_told (nodes_of later (facing (node_at ds ss q later (stage + 1) (seen ++ vs)) given))))
      → alike is_branch (branches later stage seen outcomes) es ≡ true → AreNodes (pairwise (nodes_behind (nodes_of later)) (branches later stage seen outcomes) es)
      → Apart (all_told (pairwise (nodes_behind (nodes_of later)) (branches later stage seen outcomes) es))
      × AllByRecursion (IsBehind stage seen outcomes) (all_told (pairwise (nodes_behind (nodes_of later)) (branches later stage seen outcomes) es))
  branches_apart later stage seen [] es once long walk alike_so nodes = (tt, tt)
  branches_apart later stage seen (vs ∷ outcomes) [] once long walk alike_so nodes = refuted alike_so
  branches_apart later stage seen (vs ∷ outcomes) (e ∷ es) once long walk alike_so nodes =
      let form : Data = node_at ds ss q later (stage + 1) (seen ++ vs) in
      let split = both (is_branch (branch_after ds ss q later stage seen vs) e) (alike is_branch (branches later stage seen outcomes) es) alike_so in
      let of : IsBranchOf (seen_entries (seen_after stage ss) vs) e = branch_there (seen_entries (seen_after stage ss) vs) form e split.0 in
      let first : List Facing = nodes_of later (facing form of.node) in
      let more : List Facing = nodes_after later stage seen outcomes es in
      let moved : AreNodes (first ++ more) = subst (λ hs. AreNodes (hs ++ more)) (behind_branch later stage seen vs e of) nodes in
      let here = walk vs (inl refl) of.node (first_all IsNode first more moved) in
      let rest = branches_apart later stage seen outcomes es once.1 (λ us within. long us (inr within)) (λ us within. walk us (inr within)) split.1
      (second_all IsNode first more moved) in
      let differ : (x u : Told) → IsKeyed (stage + 1) (seen ++ vs) x → IsBehind stage seen outcomes u → u.cell ≢ x.cell =
      λ x u one_is is same. (
      let keys : (one_is.place, one_is.history) ≡ (is.keyed.place, is.keyed.history) =
      same_keys (one_is.place, one_is.history) (is.keyed.place, is.keyed.history) x u one_is.key is.keyed.key one_is.numbered is.keyed.numbered same in
      let histories : one_is.history ≡ is.keyed.history = ap (λ (k : Key). k.1) keys in
      let outcome : vs ≡ is.outcome =
      front_same seen vs is.outcome one_is.rest is.keyed.rest (long vs (inl refl) ∙ sym (long is.outcome (inr is.within))) (sym one_is.begins ∙ histories ∙ is.keyed.begins) in
      once.0 (subst (λ us. In us outcomes) (sym outcome) is.within)
      ) in
      let Both : List Told → Type 0 = λ ts. Apart ts × AllByRecursion (IsBehind stage seen (vs ∷ outcomes)) ts in
      let joined : all_told (nodes_behind (nodes_of later) (branch_after ds ss q later stage seen vs) e ++ more) ≡ all_told first ++ all_told more =
      ap (λ hs. all_told (hs ++ more)) (behind_branch later stage seen vs e of) ∙ flat_map-append told_by first more in
      subst Both (sym joined) (
        apart_both (IsKeyed (stage + 1) (seen ++ vs)) (IsBehind stage seen outcomes) (all_told first) (all_told more) differ here.apart rest.0 here.keyed rest.1,
        all_append (IsBehind stage seen (vs ∷ outcomes)) (all_told first) (all_told more)
            (weaker (IsKeyed (stage + 1) (seen ++ vs)) (IsBehind stage seen (vs ∷ outcomes)) (all_told first) (λ t is. record { outcome = vs; within = inl refl; keyed = is }) here.keyed)
            (weaker (IsBehind stage seen outcomes) (IsBehind stage seen (vs ∷ outcomes)) (all_told more)
            (λ t is. record { outcome = is.outcome; within = inr is.within; keyed = is.keyed }) rest.1),
      )

  pub walked : (later stage : ℕ) (seen : List ℤ) (given : Data) → IsSeen problem stage seen → AreNodes (nodes_of later (facing (node_at ds ss q later stage seen) given))
      → IsWalked stage seen (all_told (nodes_of later (facing (node_at ds ss q later stage seen) given)))
  walked zero stage seen given possible nodes =
      let is : IsLast stage seen given = is_last stage seen given nodes in
      subst (IsWalked stage seen) (sym is.told) (own_walked stage seen possible is.of.entries [] is.of.told tt tt)
  walked (suc later) stage seen given possible nodes =
      let is : IsMore later stage seen given = is_more later stage seen given nodes in
      let outcomes : List (List ℤ) = stage_outcomes stage ss in
      let once : Once outcomes = once_of outcomes (rows_differ (seen_after stage ss) (all_filter IsBoundedStochastic (λ (s : Stochastic). nat_eq s.stage stage) ss bounded)) in
      let rest = branches_apart later stage seen outcomes is.of.branches once (λ vs within. chosen_long (seen_after stage ss) vs (outcome_chosen stage ss vs within))
      (λ vs within node. walked later (stage + 1) (seen ++ vs) node (next_seen problem stage seen vs staged possible within)) is.of.seen is.after in
      let behind : List Told = all_told (nodes_after later stage seen outcomes is.of.branches) in
      subst (IsWalked stage seen) (sym is.told)
      (own_walked stage seen possible is.of.entries behind is.of.told rest.0 (weaker (IsBehind stage seen outcomes) (IsKeyed (stage + 1) seen) behind (behind_seen stage seen outcomes) rest.1))

  -- a value that is told is that of the point
  abbrev pub Agrees : Told → Type 0
  Agrees t = get_or values t.cell (pos 0) ≡ t.value

  entries_have : (stage : ℕ) (seen : List ℤ) (nds : List (ℕ × Decision)) (es : List Data) → ((nd : ℕ × Decision) → In nd nds → IsOf stage seen nd)
      → alike is_told (map (decision_entry q seen) nds) es ≡ true → AllByRecursion Agrees (pairwise told_list (map (decision_entry q seen) nds) es)
      → HasItems (items_of (map (decision_entry p seen) nds)) es
  entries_have stage seen [] [] each told agree = tt
  entries_have stage seen [] (e ∷ es) each told agree = refuted told
  entries_have stage seen (nd ∷ nds) [] each told agree = refuted told
  entries_have stage seen (nd ∷ nds) (e ∷ es) each told agree =
      let split = both (is_told (decision_entry q seen nd) e) (alike is_told (map (decision_entry q seen) nds) es) told in
      let of : IsOf stage seen nd = each nd (inl refl) in
      let entry : Entry seen nd e = entry_of_form stage seen nd e of split.0 in
      let more : List Told = pairwise told_list (map (decision_entry q seen) nds) es in
      let moved : AllByRecursion Agrees (told_at entry.cell entry.value ∷ more) = subst (λ ts. AllByRecursion Agrees (ts ++ more)) entry.listed agree in
      let there : (i : ℕ) × (i < length values) × (decided_at q nd.0 seen ≡ pos i) × (decided_at p nd.0 seen ≡ get_or values i (pos 0)) = at (nd.0, seen) of.key in
      let same : entry.cell ≡ there.0 = ap pos_of (sym entry.numbered ∙ there.2) in
      let value : entry.value ≡ decided_at p nd.0 seen = sym moved.0 ∙ ap (λ n. get_or values n (pos 0)) same ∙ sym there.3 in
      (entry.has (decided_at p nd.0 seen) (are.values nd.0 seen) value, entries_have stage seen nds es (λ other within. each other (inr within)) split.1 moved.1)

  decide_has : (stage : ℕ) (seen : List ℤ) → IsSeen problem stage seen → (es : List Data) → alike is_told (decide stage seen) es ≡ true
      → AllByRecursion Agrees (pairwise told_list (decide stage seen) es) → HasItems (items_of (decide_of ds p stage seen)) es
  decide_has stage seen possible es told agree = entries_have stage seen (numbered_in_stage stage (enumerate_from 0 ds)) es (decision_there stage seen possible) told agree

  branches_have : (later stage : ℕ) (seen : List ℤ) (outcomes : List (List ℤ)) (es : List Data) → ((vs : List ℤ) → In vs outcomes → In vs (stage_outcomes stage ss))
      → ((vs : List ℤ) → In vs outcomes → (given : Data) → AreNodes (nodes_of later (facing (node_at ds ss q later (stage + 1) (seen ++ vs)) given))
      → AllByRecursion Agrees (all_told (nodes_of later (facing (node_at ds ss q later (stage + 1) (seen ++ vs)) given))) → Has (node_at ds ss p later (stage + 1) (seen ++ vs)) given)
      → alike is_branch (branches later stage seen outcomes) es ≡ true → AreNodes (nodes_after later stage seen outcomes es)
      → AllByRecursion Agrees (all_told (nodes_after later stage seen outcomes es)) → HasItems (items_of (map (branch_after ds ss p later stage seen) outcomes)) es
  branches_have later stage seen [] [] each walk alike_so nodes agree = tt
  branches_have later stage seen [] (e ∷ es) each walk alike_so nodes agree = refuted alike_so
  branches_have later stage seen (vs ∷ outcomes) [] each walk alike_so nodes agree = refuted alike_so
  branches_have later stage seen (vs ∷ outcomes) (e ∷ es) each walk alike_so nodes agree =
      let form : Data = node_at ds ss q later (stage + 1) (seen ++ vs) in
      let shown : Data = node_at ds ss p later (stage + 1) (seen ++ vs) in
      let split = both (is_branch (branch_after ds ss q later stage seen vs) e) (alike is_branch (branches later stage seen outcomes) es) alike_so in
      let of : IsBranchOf (seen_entries (seen_after stage ss) vs) e = branch_there (seen_entries (seen_after stage ss) vs) form e split.0 in
      let first : List Facing = nodes_of later (facing form of.node) in
      let more : List Facing = nodes_after later stage seen outcomes es in
      let moved : AreNodes (first ++ more) = subst (λ hs. AreNodes (hs ++ more)) (behind_branch later stage seen vs e of) nodes in
      let told : AllByRecursion Agrees (all_told first ++ all_told more) =
      subst (AllByRecursion Agrees) (ap (λ hs. all_told (hs ++ more)) (behind_branch later stage seen vs e of) ∙ flat_map-append told_by first more) agree in
      let node : Has shown of.node = walk vs (inl refl) of.node (first_all IsNode first more moved) (first_all Agrees (all_told first) (all_told more) told) in
      let entries : HasItems (items_of (seen_entries (seen_after stage ss) vs)) of.entries =
      seen_have (zip (seen_after stage ss) vs) of.entries (are.seen stage vs (each vs (inl refl))) of.same in (
        branch_has (seen_entries (seen_after stage ss) vs) shown e of entries node,
        branches_have later stage seen outcomes es (λ us within. each us (inr within)) (λ us within. walk us (inr within)) split.1 (second_all IsNode first more moved)
            (second_all Agrees (all_told first) (all_told more) told),
      )

  -- the text has what is printed of the point
  pub has_node : (later stage : ℕ) (seen : List ℤ) (given : Data) → IsSeen problem stage seen → AreNodes (nodes_of later (facing (node_at ds ss q later stage seen) given))
      → AllByRecursion Agrees (all_told (nodes_of later (facing (node_at ds ss q later stage seen) given))) → Has (node_at ds ss p later stage seen) given
  has_node zero stage seen given possible nodes agree =
      let is : IsLast stage seen given = is_last stage seen given nodes in
      let mine : List Told = pairwise told_list (decide stage seen) is.of.entries in
      let told : AllByRecursion Agrees (mine ++ []) = subst (AllByRecursion Agrees) is.told agree in
      node_has (decide_of ds p stage seen) [] given is.of.entries is.of.branches is.of.decided is.of.branched
      (decide_has stage seen possible is.of.entries is.of.told (first_all Agrees mine [] told)) (none_there is.of.branches is.of.seen)
  has_node (suc later) stage seen given possible nodes agree =
      let is : IsMore later stage seen given = is_more later stage seen given nodes in
      let outcomes : List (List ℤ) = stage_outcomes stage ss in
      let mine : List Told = pairwise told_list (decide stage seen) is.of.entries in
      let behind : List Told = all_told (nodes_after later stage seen outcomes is.of.branches) in
      let told : AllByRecursion Agrees (mine ++ behind) = subst (AllByRecursion Agrees) is.told agree in
      node_has (decide_of ds p stage seen) (map (branch_after ds ss p later stage seen) outcomes) given is.of.entries is.of.branches is.of.decided is.of.branched
      (decide_has stage seen possible is.of.entries is.of.told (first_all Agrees mine behind told))
      (branches_have later stage seen outcomes is.of.branches (λ vs within. within)
      (λ vs within node. has_node later (stage + 1) (seen ++ vs) node (next_seen problem stage seen vs staged possible within)) is.of.seen is.after
      (second_all Agrees mine behind told))
