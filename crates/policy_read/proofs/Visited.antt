-- The values that are told of what is printed are those of the point.
use Rattle.std.proofs.Common.{◌≡◌, ◌∙◌, ◌+◌, ◌++◌, ◌<◌, ℕ, zero, suc, ℤ, pos, negsuc, List, [], ◌∷◌, map, length, get_or, Some, None, is_some, unwrap_or, nat_eq, inl, inr, refl, sym, ap, subst, slice_get, true≢false}
use Rattle.std.proofs.lemmas.Bool.{eqb-true}
use Rattle.std.specs.List.{AllByRecursion, enumerate_from}
use Rattle.std.specs.Option.{option_map_or}
use Rattle.std.specs.FinMap.{get}
use Rattle.std.proofs.Math.Nat.{zero-add}
use Rattle.serde_json.specs.Data.{Data}
use Rattle.sopl_base.proofs.Lists.{all_append}
use Rattle.sopl_ast.specs.Cells.{IsPoint, cells}
use Rattle.sopl_ast.specs.Histories.{history}
use Rattle.sopl_ast.specs.Instances.{Decision, Problem}
use Rattle.sopl_ast.specs.Policies.{IsKey, Key, Policy}
use Rattle.policy_tree.proofs.Bijection.{points_are_policies}
use Rattle.policy_tree.proofs.Members.{In, from_enumerate, from_filter}
use Rattle.sopl_policy.proofs.Keeping.{point_long}
use Rattle.policy_json.specs.Entries.{entry_of}
use Rattle.policy_json.specs.Nodes.{decide_of, decided_at, decision_entry, node_at, node_of, numbered_in_stage, stage_outcomes}
use Rattle.policy_json.specs.Staged.{IsStaged}
use Rattle.policy_json.proofs.Held.{is_key, next_seen}
use Rattle.policy_json.proofs.Branches.{branch_after}
use Rattle.policy_json.proofs.Chosen.{AreChosen}
use Rattle.policy_read.specs.declared.entry.Told.{Told}
use Rattle.policy_read.specs.Listed.{pairwise}
use Rattle.policy_read.specs.Entries.{told_at, told_in}
use Rattle.policy_read.specs.Forms.{Facing, facing, nodes_behind, nodes_of, told_by, told_list}
use Rattle.policy_read.specs.Printed.{AreReadable}
use Rattle.policy_read.proofs.Printing.{IsReadBack, decide_back, entry_told, next_back}
use Rattle.policy_read.proofs.Small.{are_read_back, form, policy, shown}

-- the history is what has been seen of some chosen values when the stage is chosen
abbrev pub IsSeen : Problem → ℕ → List ℤ → Type 0
IsSeen problem stage seen = (vs : List ℤ) × AreChosen problem.stochastics vs × (history stage problem.stochastics vs ≡ seen)

abbrev pub pos_of : ℤ → ℕ
pos_of (pos n) = n
pos_of (negsuc n) = 0

pub first_all : {A : Type 0} (P : A → Type 0) (xs ys : List A) → AllByRecursion P (xs ++ ys) → AllByRecursion P xs
first_all P [] ys all = tt
first_all P (x ∷ xs) ys all = (all.0, first_all P xs ys all.1)

pub second_all : {A : Type 0} (P : A → Type 0) (xs ys : List A) → AllByRecursion P (xs ++ ys) → AllByRecursion P ys
second_all P [] ys all = all
second_all P (x ∷ xs) ys all = second_all P xs ys all.1

module _ (problem : Problem) (values : List ℤ) (point : IsPoint (cells problem) values) (staged : IsStaged problem) (small : AreReadable problem values) where
  abbrev pub long : length values ≡ length (cells problem)
  long = point_long (cells problem) values point

  abbrev pub q : Policy
  q = form problem values long

  abbrev pub p : Policy
  p = policy problem values long

  -- the value at a key: the number of its cell in the form
  abbrev pub At : ℕ → List ℤ → Type 0
  At place seen = (i : ℕ) × (i < length values) × (decided_at q place seen ≡ pos i) × (decided_at p place seen ≡ get_or values i (pos 0))

  pub key_at : (key : Key) → IsKey problem key → At key.0 key.1
  key_at key is =
      elim (shown problem values long key) [
        | inl none ↦ absurd (true≢false (sym (((points_are_policies problem values point).keys key).1 is) ∙ ap is_some none.1))
        | inr some ↦ (some.0, some.1, ap (λ o. unwrap_or o (pos 0)) some.2 ∙ ap pos (zero-add some.0), ap (λ o. unwrap_or o (pos 0)) some.3)
      ]

  pub form_there : (key : Key) → IsKey problem key → get q key ≡ None → ⊥
  form_there key is gone =
      elim (shown problem values long key) [
        | inl none ↦ true≢false (sym (((points_are_policies problem values point).keys key).1 is) ∙ ap is_some none.1)
        | inr some ↦ true≢false (ap is_some (sym some.2) ∙ ap is_some gone)
      ]

  pub decision_at : (stage : ℕ) (seen : List ℤ) (place : ℕ) (d : Decision) → IsSeen problem stage seen
      → In (place, d) (numbered_in_stage stage (enumerate_from 0 problem.decisions)) → IsKey problem (place, seen) × AllByRecursion IsReadBack d.index
  decision_at stage seen place d possible within =
      let kept = from_filter (λ (nd : ℕ × Decision). nat_eq nd.1.stage stage) (enumerate_from 0 problem.decisions) (place, d) within in
      let found : (i : ℕ) × (place ≡ 0 + i) × (slice_get problem.decisions i ≡ Some d) = from_enumerate 0 problem.decisions place d kept.0 in
      let Holds : ℕ → Type 0 = λ n. slice_get problem.decisions n ≡ Some d in
      let decided : slice_get problem.decisions place ≡ Some d = subst Holds (sym (found.1 ∙ zero-add found.0)) found.2 in
      (is_key problem place stage d seen decided (eqb-true d.stage stage kept.1) possible, (are_read_back problem values long small).decided place d decided)

  -- what an entry tells
  pub entry_list : (seen : List ℤ) (place : ℕ) (d : Decision) (at : At place seen) → AllByRecursion IsReadBack d.index
      → told_list (decision_entry q seen (place, d)) (decision_entry p seen (place, d)) ≡ told_at at.0 (get_or values at.0 (pos 0)) ∷ []
  entry_list seen place d at index =
      (λ k. option_map_or (λ (t : Told). t ∷ []) (told_in (entry_of d.name d.index (at.2 k)) (decision_entry p seen (place, d))) [])
      ∙ ap (λ o. option_map_or (λ (t : Told). t ∷ []) o []) (entry_told d.name d.index index at.0 (decided_at p place seen) ((are_read_back problem values long small).values place seen))
      ∙ ap (λ v. told_at at.0 v ∷ []) at.3

  -- a value that is told is that of the point
  abbrev pub IsTold : Told → Type 0
  IsTold t = (t.cell < length values) × (t.value ≡ get_or values t.cell (pos 0))

  entries_told : (stage : ℕ) (seen : List ℤ) → IsSeen problem stage seen → (nds : List (ℕ × Decision))
      → ((nd : ℕ × Decision) → In nd nds → IsKey problem (nd.0, seen) × AllByRecursion IsReadBack nd.1.index)
      → AllByRecursion IsTold (pairwise told_list (map (decision_entry q seen) nds) (map (decision_entry p seen) nds))
  entries_told stage seen possible [] each = tt
  entries_told stage seen possible ((place, d) ∷ nds) each =
      let first = each (place, d) (inl refl) in
      let at : At place seen = key_at (place, seen) first.0 in
      all_append IsTold (told_list (decision_entry q seen (place, d)) (decision_entry p seen (place, d))) _
      (subst (AllByRecursion IsTold) (sym (entry_list seen place d at first.1)) ((at.1, refl), tt))
      (entries_told stage seen possible nds (λ nd within. each nd (inr within)))

  told_node : (stage : ℕ) (seen : List ℤ) → IsSeen problem stage seen → (ns ms : List Data)
      → AllByRecursion IsTold (told_by (facing (node_of (decide_of problem.decisions q stage seen) ns) (node_of (decide_of problem.decisions p stage seen) ms)))
  told_node stage seen possible ns ms =
      subst (AllByRecursion IsTold)
      (sym (λ i. pairwise told_list (unwrap_or (decide_back (decide_of problem.decisions q stage seen) ns i) []) (unwrap_or (decide_back (decide_of problem.decisions p stage seen) ms i) [])))
      (entries_told stage seen possible (numbered_in_stage stage (enumerate_from 0 problem.decisions)) (λ nd within. decision_at stage seen nd.0 nd.1 possible within))

  abbrev pub AreTold : List Facing → Type 0
  AreTold nodes = AllByRecursion (λ h. AllByRecursion IsTold (told_by h)) nodes

  abbrev pub both_at : (later stage : ℕ) (seen : List ℤ) → Facing
  both_at later stage seen = facing (node_at problem.decisions problem.stochastics q later stage seen) (node_at problem.decisions problem.stochastics p later stage seen)

  told_each : (later stage : ℕ) (seen : List ℤ) (outcomes : List (List ℤ)) → ((vs : List ℤ) → In vs outcomes → AreTold (nodes_of later (both_at later (stage + 1) (seen ++ vs))))
      → AreTold (pairwise (nodes_behind (nodes_of later)) (map (branch_after problem.decisions problem.stochastics q later stage seen) outcomes)
      (map (branch_after problem.decisions problem.stochastics p later stage seen) outcomes))
  told_each later stage seen [] each = tt
  told_each later stage seen (vs ∷ outcomes) each =
      all_append (λ h. AllByRecursion IsTold (told_by h)) (nodes_of later (both_at later (stage + 1) (seen ++ vs))) _ (each vs (inl refl))
      (told_each later stage seen outcomes (λ us within. each us (inr within)))

  -- the nodes behind a node of what is printed
  pub behind : (later stage : ℕ) (seen : List ℤ)
      → nodes_of (suc later) (both_at (suc later) stage seen)
      ≡ both_at (suc later) stage seen ∷ pairwise (nodes_behind (nodes_of later)) (map (branch_after problem.decisions problem.stochastics q later stage seen) (stage_outcomes stage problem.stochastics))
      (map (branch_after problem.decisions problem.stochastics p later stage seen) (stage_outcomes stage problem.stochastics))
  behind later stage seen =
      let ns : List Data = map (branch_after problem.decisions problem.stochastics q later stage seen) (stage_outcomes stage problem.stochastics) in
      let ms : List Data = map (branch_after problem.decisions problem.stochastics p later stage seen) (stage_outcomes stage problem.stochastics) in
      λ i. both_at (suc later) stage seen ∷ pairwise (nodes_behind (nodes_of later)) (unwrap_or (next_back (decide_of problem.decisions q stage seen) ns i) [])
      (unwrap_or (next_back (decide_of problem.decisions p stage seen) ms i) [])

  pub nodes_told : (later stage : ℕ) (seen : List ℤ) → IsSeen problem stage seen → AreTold (nodes_of later (both_at later stage seen))
  nodes_told zero stage seen possible = (told_node stage seen possible [] [], tt)
  nodes_told (suc later) stage seen possible =
      subst AreTold (sym (behind later stage seen)) (
        told_node stage seen possible (map (branch_after problem.decisions problem.stochastics q later stage seen) (stage_outcomes stage problem.stochastics))
            (map (branch_after problem.decisions problem.stochastics p later stage seen) (stage_outcomes stage problem.stochastics)),
        told_each later stage seen (stage_outcomes stage problem.stochastics) (λ vs within. nodes_told later (stage + 1) (seen ++ vs) (next_seen problem stage seen vs staged possible within)),
      )
