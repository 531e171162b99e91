-- What is printed of a policy is read as that policy.
use native.Mathlib.Omega.{arith}
use Rattle.std.proofs.Common.{◌≡◌, ◌∙◌, ◌+◌, ◌-◌, ◌++◌, ℕ, zero, suc, ℤ, pos, List, [], ◌∷◌, map, length, get_or, unwrap_or, inl, inr, refl, sym, ap, subst}
use Rattle.std.specs.List.{AllByRecursion, enumerate_from, flat_map}
use Rattle.std.specs.Option.{option_map_or}
use Rattle.serde_json.specs.Data.{Data}
use Rattle.sopl_base.proofs.Lists.{all_joined}
use Rattle.sopl_ast.specs.Cells.{IsPoint, cells, policy_at}
use Rattle.sopl_ast.specs.Instances.{Decision, Problem}
use Rattle.sopl_ast.specs.Policies.{IsKey, Key, Policy}
use Rattle.sopl_ast.specs.Unfolding.{problem_of}
use Rattle.unfold_laws.proofs.Whole.{decisions_are_bounded}
use Rattle.policy_tree.proofs.Bijection.{points_are_policies, points_differ}
use Rattle.policy_tree.proofs.Members.{In}
use Rattle.sopl_policy.proofs.Keeping.{point_long}
use Rattle.policy_json.specs.Entries.{entry_of}
use Rattle.policy_json.specs.LastStage.{last_stage}
use Rattle.policy_json.specs.Nodes.{branch_at, decide_of, decided_at, decision_entry, node_at, node_of, numbered_in_stage, policy_data, stage_outcomes}
use Rattle.policy_json.specs.Staged.{IsStaged}
use Rattle.policy_json.proofs.Branches.{branch_after}
use Rattle.policy_json.proofs.Chosen.{AreChosen, any_chosen, none_seen}
use Rattle.policy_json.proofs.Printed.{data_alike}
use Rattle.policy_json.proofs.Staged.{texts_are_staged}
use Rattle.policy_read.specs.declared.entry.Told.{Told}
use Rattle.policy_read.specs.Listed.{pairwise}
use Rattle.policy_read.specs.Entries.{told_at}
use Rattle.policy_read.specs.Forms.{Facing, all_told, facing, nodes_behind, nodes_of, told_by, told_list}
use Rattle.sopl_scen.specs.Domains.{cell_ends}
use Rattle.policy_read.specs.Domains.{low_in}
use Rattle.policy_read.specs.Policies.{Differs, NoJson, Point, data_read, node_read, policy_unless, put_all_at, values_unless}
use Rattle.policy_read.specs.Printed.{AcceptedAreRead, AreReadable, PrintedIsRead, PolicyTextsAreRead}
use Rattle.policy_read.proofs.Indices.{accepted_are_readable}
use Rattle.policy_read.proofs.Printing.{IsReadBack, decide_back}
use Rattle.policy_read.proofs.Putting.{all_point, all_there, lows_lie, none_outside}
use Rattle.policy_read.proofs.Small.{policy, prints_in_form, shown}
use Rattle.policy_json.proofs.Held.{next_seen}
use Rattle.policy_read.proofs.Visited.{At, IsSeen, IsTold, behind, both_at, decision_at, entry_list, first_all, form_there, key_at, nodes_told, p, pos_of, q, second_all}

all_flat : {A B : Type 0} (P : B → Type 0) (f : A → List B) (xs : List A) → AllByRecursion P (flat_map f xs) → AllByRecursion (λ x. AllByRecursion P (f x)) xs
all_flat P f [] all = tt
all_flat P f (x ∷ xs) all = (first_all P (f x) (flat_map f xs) all, all_flat P f xs (second_all P (f x) (flat_map f xs) all))

module _ (problem : Problem) (values : List ℤ) (point : IsPoint (cells problem) values) (staged : IsStaged problem) (small : AreReadable problem values)
    (ws : List ℤ) (wlong : length ws ≡ length (cells problem)) where
  abbrev pub r : Policy
  r = policy problem ws wlong

  -- both points have the same value there
  abbrev pub Agrees : Told → Type 0
  Agrees t = get_or ws t.cell (pos 0) ≡ get_or values t.cell (pos 0)

  other_at : (key : Key) (i : ℕ) → decided_at (q problem values point staged small) key.0 key.1 ≡ pos i → IsKey problem key → decided_at r key.0 key.1 ≡ get_or ws i (pos 0)
  other_at key i numbered is =
      elim (shown problem ws wlong key) [
        | inl none ↦ absurd (form_there problem values point staged small key is none.0)
        | inr some ↦
            let alike : 0 + some.0 ≡ i = ap pos_of (sym (ap (λ o. unwrap_or o (pos 0)) some.2) ∙ numbered) in
            let same : some.0 ≡ i = omega (arith, alike) in
            ap (λ o. unwrap_or o (pos 0)) some.3 ∙ ap (λ n. get_or ws n (pos 0)) same
      ]

  entry_agrees : (seen : List ℤ) (place : ℕ) (d : Decision) → IsKey problem (place, seen) → AllByRecursion IsReadBack d.index
      → AllByRecursion Agrees (told_list (decision_entry (q problem values point staged small) seen (place, d)) (decision_entry (p problem values point staged small) seen (place, d)))
      → decision_entry r seen (place, d) ≡ decision_entry (p problem values point staged small) seen (place, d)
  entry_agrees seen place d is index all =
      let at : At problem values point staged small place seen = key_at problem values point staged small (place, seen) is in
      let agree : AllByRecursion Agrees (told_at at.0 (get_or values at.0 (pos 0)) ∷ []) = subst (AllByRecursion Agrees) (entry_list problem values point staged small seen place d at index) all in
      ap (entry_of d.name d.index) (other_at (place, seen) at.0 at.2 is ∙ agree.0 ∙ sym at.3)

  entries_agree : (seen : List ℤ) (nds : List (ℕ × Decision)) → ((nd : ℕ × Decision) → In nd nds → IsKey problem (nd.0, seen) × AllByRecursion IsReadBack nd.1.index)
      → AllByRecursion Agrees (pairwise told_list (map (decision_entry (q problem values point staged small) seen) nds) (map (decision_entry (p problem values point staged small) seen) nds))
      → map (decision_entry r seen) nds ≡ map (decision_entry (p problem values point staged small) seen) nds
  entries_agree seen [] each all = refl
  entries_agree seen ((place, d) ∷ nds) each all =
      let first : IsKey problem (place, seen) × AllByRecursion IsReadBack d.index = each (place, d) (inl refl) in
      let here : List Told = told_list (decision_entry (q problem values point staged small) seen (place, d)) (decision_entry (p problem values point staged small) seen (place, d)) in
      let one = entry_agrees seen place d first.0 first.1 (first_all Agrees here _ all) in
      let later = entries_agree seen nds (λ nd within. each nd (inr within)) (second_all Agrees here _ all) in
      λ i. one i ∷ later i

  decide_agrees : (stage : ℕ) (seen : List ℤ) → IsSeen problem stage seen → (ns ms : List Data)
      → AllByRecursion Agrees (told_by (facing (node_of (decide_of problem.decisions (q problem values point staged small) stage seen) ns)
      (node_of (decide_of problem.decisions (p problem values point staged small) stage seen) ms)))
      → decide_of problem.decisions r stage seen ≡ decide_of problem.decisions (p problem values point staged small) stage seen
  decide_agrees stage seen possible ns ms all =
      entries_agree seen (numbered_in_stage stage (enumerate_from 0 problem.decisions)) (λ nd within. decision_at problem values point staged small stage seen nd.0 nd.1 possible within)
      (subst (AllByRecursion Agrees)
      (λ i. pairwise told_list (unwrap_or (decide_back (decide_of problem.decisions (q problem values point staged small) stage seen) ns i) [])
      (unwrap_or (decide_back (decide_of problem.decisions (p problem values point staged small) stage seen) ms i) []))
      all)

  abbrev pub AllAgree : List Facing → Type 0
  AllAgree nodes = AllByRecursion (λ h. AllByRecursion Agrees (told_by h)) nodes

  branches_agree : (later stage : ℕ) (seen : List ℤ) (outcomes : List (List ℤ))
      → ((vs : List ℤ) → In vs outcomes → AllAgree (nodes_of later (both_at problem values point staged small later (stage + 1) (seen ++ vs)))
      → node_at problem.decisions problem.stochastics r later (stage + 1) (seen ++ vs) ≡ node_at problem.decisions problem.stochastics (p problem values point staged small) later (stage + 1) (seen ++ vs))
      → AllAgree (pairwise (nodes_behind (nodes_of later)) (map (branch_after problem.decisions problem.stochastics (q problem values point staged small) later stage seen) outcomes)
      (map (branch_after problem.decisions problem.stochastics (p problem values point staged small) later stage seen) outcomes))
      → map (branch_after problem.decisions problem.stochastics r later stage seen) outcomes
      ≡ map (branch_after problem.decisions problem.stochastics (p problem values point staged small) later stage seen) outcomes
  branches_agree later stage seen [] each all = refl
  branches_agree later stage seen (vs ∷ outcomes) each all =
      let here : List Facing = nodes_of later (both_at problem values point staged small later (stage + 1) (seen ++ vs)) in
      let one = each vs (inl refl) (first_all (λ h. AllByRecursion Agrees (told_by h)) here _ all) in
      let more = branches_agree later stage seen outcomes (λ us within. each us (inr within)) (second_all (λ h. AllByRecursion Agrees (told_by h)) here _ all) in
      λ i. branch_at stage problem.stochastics vs (one i) ∷ more i

  pub node_agrees : (later stage : ℕ) (seen : List ℤ) → IsSeen problem stage seen → AllAgree (nodes_of later (both_at problem values point staged small later stage seen))
      → node_at problem.decisions problem.stochastics r later stage seen ≡ node_at problem.decisions problem.stochastics (p problem values point staged small) later stage seen
  node_agrees zero stage seen possible all = ap (λ ds. node_of ds []) (decide_agrees stage seen possible [] [] all.0)
  node_agrees (suc later) stage seen possible all =
      let split = subst AllAgree (behind problem values point staged small later stage seen) all in
      let decide = decide_agrees stage seen possible (map (branch_after problem.decisions problem.stochastics (q problem values point staged small) later stage seen) (stage_outcomes stage problem.stochastics))
      (map (branch_after problem.decisions problem.stochastics (p problem values point staged small) later stage seen) (stage_outcomes stage problem.stochastics)) split.0 in
      let next = branches_agree later stage seen (stage_outcomes stage problem.stochastics)
      (λ vs within. node_agrees later (stage + 1) (seen ++ vs) (next_seen problem stage seen vs staged possible within)) split.1 in
      λ i. node_of (decide i) (next i)

-- the whole
pub printed_is_read : PrintedIsRead
printed_is_read problem values staged bounded point small =
    let later : ℕ = last_stage problem.decisions - 1 in
    let some : (vs : List ℤ) × AreChosen problem.stochastics vs = any_chosen problem.stochastics staged.outcomes in
    let begun : IsSeen problem 1 [] = (some.0, some.1, none_seen 1 1 problem.stochastics some.0 staged.ascending (omega arith)) in
    let nodes : List Facing = nodes_of later (both_at problem values point staged small later 1 []) in
    let told : List Told = all_told nodes in
    let domains : List (ℤ × ℤ) = map cell_ends (cells problem) in
    let ws : List ℤ = put_all_at told (map low_in domains) in
    let are_told : AllByRecursion (IsTold problem values point staged small) told =
    all_joined (IsTold problem values point staged small) told_by nodes (nodes_told problem values point staged small later 1 [] begun) in
    let lows : IsPoint (cells problem) (map low_in domains) = lows_lie (cells problem) values point in
    let is_point : IsPoint (cells problem) ws = all_point values (cells problem) point told (map low_in domains) are_told lows in
    let wlong : length ws ≡ length (cells problem) = point_long (cells problem) ws is_point in
    let start : length (map low_in domains) ≡ length values = point_long (cells problem) (map low_in domains) lows ∙ sym (point_long (cells problem) values point) in
    let agree : AllAgree problem values point staged small ws wlong nodes =
    all_flat (Agrees problem values point staged small ws wlong) told_by nodes (all_there values told (map low_in domains) start are_told) in
    let alike : policy_data problem (policy_at (cells problem) ws) ≡ policy_data problem (policy_at (cells problem) values) =
    node_agrees problem values point staged small ws wlong later 1 [] begun agree in
    let one : policy_at (cells problem) ws ≡ policy_at (cells problem) values =
    data_alike problem (policy_at (cells problem) ws) (policy_at (cells problem) values) staged.ascending bounded (points_are_policies problem ws is_point)
    (points_are_policies problem values point) alike in
    ap (λ o. values_unless o nodes domains) (prints_in_form problem values (point_long (cells problem) values point) small)
    ∙ ap (λ o. policy_unless o told domains) (none_outside values (cells problem) point told are_told)
    ∙ ap Point (points_differ problem ws values is_point point one)

pub policy_texts_are_read : PolicyTextsAreRead
policy_texts_are_read problem values staged bounded point small text d read has =
    ap (λ o. option_map_or (data_read problem.decisions problem.stochastics) o NoJson) read
    ∙ ap (λ o. option_map_or (node_read problem.decisions problem.stochastics) o (Differs 0)) has
    ∙ printed_is_read problem values staged bounded point small

pub accepted_are_read : AcceptedAreRead
accepted_are_read model from passes values point text d read has =
    policy_texts_are_read (problem_of model) values (texts_are_staged model from passes) (decisions_are_bounded model passes) point (accepted_are_readable model passes values point) text d read has
