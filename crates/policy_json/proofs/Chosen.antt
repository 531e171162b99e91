-- The values that stochastic variables can have together, and what has been seen of them, stage by stage.
use Rattle.std.proofs.Common.{◌≡◌, ◌≤◌, ◌<◌, ◌+◌, ◌++◌, ℕ, ℤ, pos, true, false, cond, nat_lt, List, [], ◌∷◌, length, map, All, ◌⊎◌, inl, inr, arith, refl, sym, ap, subst, ◌∙◌}
use Rattle.std.proofs.lemmas.Bool.{cases_order}
use Rattle.std.proofs.lemmas.List.Elements.{All-head, All-tail}
use Rattle.sopl_base.proofs.Tests.{nat_test, nat_untest}
use Rattle.sopl_ast.specs.Instances.{Outcome, Stochastic, distribution}
use Rattle.sopl_ast.specs.Scenarios.{Scenario, preceded_by, scenarios}
use Rattle.sopl_ast.specs.Histories.{history}
use Rattle.lang_laws.proofs.Independence.{scenarios_begin}
use Rattle.scen_laws.proofs.Prefixes.{differ, same}
use Rattle.policy_tree.proofs.Members.{In, In-flat_map, In-map, from_flat_map, from_map}
use Rattle.policy_json.specs.Nodes.{seen_after, stage_outcomes}
use Rattle.policy_json.specs.Staged.{Ascend}

-- the values of a scenario
abbrev values_in : Scenario → List ℤ
values_in s = s.values

-- the value of an outcome for each variable, in order
abbrev pub AreChosen : List Stochastic → List ℤ → Type 0
AreChosen [] [] = Unit {0}
AreChosen [] (v ∷ vs) = ⊥
AreChosen (s ∷ ss) [] = ⊥
AreChosen (s ∷ ss) (v ∷ vs) = ((o : Outcome) × In o (distribution s) × (o.value ≡ v)) × AreChosen ss vs

-- the values of a scenario are chosen
pub chosen_in : (ss : List Stochastic) (x : Scenario) → In x (scenarios ss) → AreChosen ss x.values
chosen_in [] x (inl e) = let C : Scenario → Type 0 = λ y. AreChosen [] y.values in subst C e tt
chosen_in [] x (inr h) = absurd h
chosen_in (s ∷ ss) x h =
    let of_outcome : (o : Outcome) × In o (distribution s) × In x (map (preceded_by o) (scenarios ss)) =
    from_flat_map (λ o. map (preceded_by o) (scenarios ss)) (distribution s) x (subst (In x) (scenarios_begin s ss) h) in
    let of_later : (y : Scenario) × In y (scenarios ss) × (preceded_by of_outcome.0 y ≡ x) =
    from_map (preceded_by of_outcome.0) (scenarios ss) x of_outcome.2 in
    let C : Scenario → Type 0 = λ y. AreChosen (s ∷ ss) y.values in
    subst C of_later.2 ((of_outcome.0, of_outcome.1, refl), chosen_in ss of_later.0 of_later.1)

-- chosen values are those of a scenario
pub scenario_of : (ss : List Stochastic) (vs : List ℤ) → AreChosen ss vs → (x : Scenario) × In x (scenarios ss) × (x.values ≡ vs)
scenario_of [] [] c = (record { values = []; weight = pos 1 }, inl refl, refl)
scenario_of [] (v ∷ vs) c = absurd c
scenario_of (s ∷ ss) [] c = absurd c
scenario_of (s ∷ ss) (v ∷ vs) c =
    let later : (x : Scenario) × In x (scenarios ss) × (x.values ≡ vs) = scenario_of ss vs c.1 in
    let o : Outcome = c.0.0 in
    let is : o.value ≡ v = c.0.2 in (
      preceded_by o later.0,
      subst (In (preceded_by o later.0)) (sym (scenarios_begin s ss))
          (In-flat_map (λ o. map (preceded_by o) (scenarios ss)) (distribution s) o (preceded_by o later.0) c.0.1
          (In-map (preceded_by o) (scenarios ss) later.0 later.1)),
      λ i. is i ∷ later.2 i,
    )

-- what can be seen after a stage is chosen for its variables
pub outcome_chosen : (stage : ℕ) (ss : List Stochastic) (vs : List ℤ) → In vs (stage_outcomes stage ss) → AreChosen (seen_after stage ss) vs
outcome_chosen stage ss vs h =
    let from : (x : Scenario) × In x (scenarios (seen_after stage ss)) × (x.values ≡ vs) = from_map values_in (scenarios (seen_after stage ss)) vs h in
    subst (AreChosen (seen_after stage ss)) from.2 (chosen_in (seen_after stage ss) from.0 from.1)

-- where each variable has an outcome, values can be chosen
pub any_chosen : (ss : List Stochastic) → All (λ (s : Stochastic). 1 ≤ length (distribution s)) ss → (vs : List ℤ) × AreChosen ss vs
any_chosen [] have = ([], tt)
any_chosen (s ∷ ss) have =
    let HasOutcome : Stochastic → Type 0 = λ s. 1 ≤ length (distribution s) in
    let first : (o : Outcome) × In o (distribution s) = one_of (distribution s) (All-head HasOutcome s ss have) in
    let later : (vs : List ℤ) × AreChosen ss vs = any_chosen ss (All-tail HasOutcome s ss have) in
    (first.0.value ∷ later.0, ((first.0, first.1, refl), later.1))
  where
    one_of : (os : List Outcome) → 1 ≤ length os → (o : Outcome) × In o os
    one_of [] h = absurd (omega arith)
    one_of (o ∷ os) h = (o, inl refl)

-- a value that has been seen
history_seen : (stage : ℕ) (s : Stochastic) (ss : List Stochastic) (v : ℤ) (vs : List ℤ) → nat_lt s.stage stage ≡ true → history stage (s ∷ ss) (v ∷ vs) ≡ v ∷ history stage ss vs
history_seen stage s ss v vs h = ap (λ b. cond b (v ∷ history stage ss vs) (history stage ss vs)) h

-- a value that has not been seen
history_unseen : (stage : ℕ) (s : Stochastic) (ss : List Stochastic) (v : ℤ) (vs : List ℤ) → nat_lt s.stage stage ≡ false → history stage (s ∷ ss) (v ∷ vs) ≡ history stage ss vs
history_unseen stage s ss v vs h = ap (λ b. cond b (v ∷ history stage ss vs) (history stage ss vs)) h

-- before the first stage nothing has been seen
pub none_seen : (stage from : ℕ) (ss : List Stochastic) (vs : List ℤ) → Ascend from ss → stage ≤ from → history stage ss vs ≡ []
none_seen stage from [] vs a h = refl
none_seen stage from (s ∷ ss) [] a h = refl
none_seen stage from (s ∷ ss) (v ∷ vs) a h =
    let first : from ≤ s.stage = a.0 in
    history_unseen stage s ss v vs (nat_untest s.stage stage (omega arith)) ∙ none_seen stage s.stage ss vs a.1 (omega arith)

-- there are chosen values that have shown, when the next stage is chosen, what vs had shown when this stage was, and then ws
abbrev pub Next : ℕ → List Stochastic → List ℤ → List ℤ → Type 0
Next stage ss vs ws = (us : List ℤ) × AreChosen ss us × (history (stage + 1) ss us ≡ history stage ss vs ++ ws)

-- what vs had shown when a stage was chosen, and then what can be seen after it, can have been seen when the next stage is chosen
pub next_chosen : (stage from : ℕ) (ss : List Stochastic) (vs ws : List ℤ) → Ascend from ss → AreChosen ss vs → AreChosen (seen_after stage ss) ws → Next stage ss vs ws
next_chosen stage from [] [] [] a c d = ([], tt, refl)
next_chosen stage from [] [] (w ∷ ws) a c d = absurd d
next_chosen stage from [] (v ∷ vs) ws a c d = absurd c
next_chosen stage from (s ∷ ss) [] ws a c d = absurd c
next_chosen stage from (s ∷ ss) (v ∷ vs) ws a c d =
    elim (cases_order s.stage stage) [
      | inl here ↦ seen_now here ws (subst (λ b. AreChosen (cond b (s ∷ seen_after stage ss) (seen_after stage ss)) ws) (same s.stage stage here) d)
          (λ zs e. next_chosen stage s.stage ss vs zs a.1 c.1 e)
      | inr (inl earlier) ↦ seen_before earlier (next_chosen stage s.stage ss vs ws a.1 c.1 (passed (inl earlier)))
      | inr (inr later) ↦ seen_later later (next_chosen stage s.stage ss vs ws a.1 c.1 (passed (inr later)))
    ]
  where
    passed : (s.stage < stage) ⊎ (stage < s.stage) → AreChosen (seen_after stage ss) ws
    passed apart = subst (λ b. AreChosen (cond b (s ∷ seen_after stage ss) (seen_after stage ss)) ws) (differ s.stage stage apart) d

    seen_before : s.stage < stage → Next stage ss vs ws → Next stage (s ∷ ss) (v ∷ vs) ws
    seen_before earlier n = (
      v ∷ n.0,
      (c.0, n.1),
      history_seen (stage + 1) s ss v n.0 (nat_test s.stage (stage + 1) (omega arith))
          ∙ (ap (λ xs. v ∷ xs) n.2 ∙ sym (ap (λ xs. xs ++ ws) (history_seen stage s ss v vs (nat_test s.stage stage earlier)))),
    )

    seen_now : s.stage ≡ stage → (zs : List ℤ) → AreChosen (s ∷ seen_after stage ss) zs
        → ((rest : List ℤ) → AreChosen (seen_after stage ss) rest → Next stage ss vs rest) → Next stage (s ∷ ss) (v ∷ vs) zs
    seen_now here [] e next = absurd e
    seen_now here (z ∷ zs) e next =
        let n : Next stage ss vs zs = next zs e.1 in
        let none : history stage ss vs ≡ [] = none_seen stage s.stage ss vs a.1 (omega arith) in (
          z ∷ n.0,
          (e.0, n.1),
          history_seen (stage + 1) s ss z n.0 (nat_test s.stage (stage + 1) (omega arith))
              ∙ (ap (λ xs. z ∷ xs) (n.2 ∙ ap (λ xs. xs ++ zs) none)
              ∙ sym (ap (λ xs. xs ++ z ∷ zs) (history_unseen stage s ss v vs (nat_untest s.stage stage (omega arith)) ∙ none))),
        )

    seen_later : stage < s.stage → Next stage ss vs ws → Next stage (s ∷ ss) (v ∷ vs) ws
    seen_later later n = (
      v ∷ n.0,
      (c.0, n.1),
      history_unseen (stage + 1) s ss v n.0 (nat_untest s.stage (stage + 1) (omega arith))
          ∙ (n.2 ∙ sym (ap (λ xs. xs ++ ws) (history_unseen stage s ss v vs (nat_untest s.stage stage (omega arith))))),
    )

-- of the values that vs shows, those that are seen after a stage, which the history of the next stage has behind that of the stage
abbrev pub Now : ℕ → List Stochastic → List ℤ → Type 0
Now stage ss vs = (ws : List ℤ) × AreChosen (seen_after stage ss) ws × (history (stage + 1) ss vs ≡ history stage ss vs ++ ws)

pub now_chosen : (stage from : ℕ) (ss : List Stochastic) (vs : List ℤ) → Ascend from ss → AreChosen ss vs → Now stage ss vs
now_chosen stage from [] [] a c = ([], tt, refl)
now_chosen stage from [] (v ∷ vs) a c = absurd c
now_chosen stage from (s ∷ ss) [] a c = absurd c
now_chosen stage from (s ∷ ss) (v ∷ vs) a c =
    elim (cases_order s.stage stage) [
      | inl here ↦ seen_here here (now_chosen stage s.stage ss vs a.1 c.1)
      | inr (inl earlier) ↦ seen_before earlier (now_chosen stage s.stage ss vs a.1 c.1)
      | inr (inr later) ↦ seen_later later (now_chosen stage s.stage ss vs a.1 c.1)
    ]
  where
    kept : (ws : List ℤ) → (s.stage < stage) ⊎ (stage < s.stage) → AreChosen (seen_after stage ss) ws → AreChosen (seen_after stage (s ∷ ss)) ws
    kept ws apart d = subst (λ b. AreChosen (cond b (s ∷ seen_after stage ss) (seen_after stage ss)) ws) (sym (differ s.stage stage apart)) d

    seen_here : s.stage ≡ stage → Now stage ss vs → Now stage (s ∷ ss) (v ∷ vs)
    seen_here here n =
        let none : history stage ss vs ≡ [] = none_seen stage s.stage ss vs a.1 (omega arith) in (
          v ∷ n.0,
          subst (λ b. AreChosen (cond b (s ∷ seen_after stage ss) (seen_after stage ss)) (v ∷ n.0)) (sym (same s.stage stage here)) (c.0, n.1),
          history_seen (stage + 1) s ss v vs (nat_test s.stage (stage + 1) (omega arith))
              ∙ (ap (λ xs. v ∷ xs) (n.2 ∙ ap (λ xs. xs ++ n.0) none)
              ∙ sym (ap (λ xs. xs ++ v ∷ n.0) (history_unseen stage s ss v vs (nat_untest s.stage stage (omega arith)) ∙ none))),
        )

    seen_before : s.stage < stage → Now stage ss vs → Now stage (s ∷ ss) (v ∷ vs)
    seen_before earlier n = (
      n.0,
      kept n.0 (inl earlier) n.1,
      history_seen (stage + 1) s ss v vs (nat_test s.stage (stage + 1) (omega arith))
          ∙ (ap (λ xs. v ∷ xs) n.2 ∙ sym (ap (λ xs. xs ++ n.0) (history_seen stage s ss v vs (nat_test s.stage stage earlier)))),
    )

    seen_later : stage < s.stage → Now stage ss vs → Now stage (s ∷ ss) (v ∷ vs)
    seen_later later n = (
      n.0,
      kept n.0 (inr later) n.1,
      history_unseen (stage + 1) s ss v vs (nat_untest s.stage (stage + 1) (omega arith))
          ∙ (n.2 ∙ sym (ap (λ xs. xs ++ n.0) (history_unseen stage s ss v vs (nat_untest s.stage stage (omega arith))))),
    )

-- what is chosen for the variables of a stage can be seen after it
pub chosen_outcome : (stage : ℕ) (ss : List Stochastic) (ws : List ℤ) → AreChosen (seen_after stage ss) ws → In ws (stage_outcomes stage ss)
chosen_outcome stage ss ws c =
    let from : (x : Scenario) × In x (scenarios (seen_after stage ss)) × (x.values ≡ ws) = scenario_of (seen_after stage ss) ws c in
    subst (λ (vs : List ℤ). In vs (stage_outcomes stage ss)) from.2 (In-map values_in (scenarios (seen_after stage ss)) from.0 from.1)
