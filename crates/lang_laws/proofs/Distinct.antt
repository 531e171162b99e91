-- No two scenarios have the same values.
use Rattle.std.proofs.Common.{◌≡◌, sym, ap, subst, ◌∙◌, ℕ, suc, ℤ, true, false, not, List, [], ◌∷◌, ◌++◌, map, All, arith}
use Rattle.std.proofs.lemmas.List.{map-append}
use Rattle.std.specs.List.{AllByRecursion, IsDistinct, list_any}
use Rattle.std.specs.Ordering.{int_eq}
use Rattle.std.proofs.lemmas.Bool.{and_left, and_parts, and_right, or_parts}
use Rattle.sopl_base.proofs.Booleans.{not_true}
use Rattle.sopl_ast.specs.Numbers.{all_distinct}
use Rattle.sopl_ast.specs.Known.{same_values}
use Rattle.sopl_ast.specs.Instances.{Outcome, Stochastic}
use Rattle.sopl_ast.specs.Scenarios.{outcomes_after}
use Rattle.sopl_ast.specs.PlacedScenarios.{Scenario, preceded_by, scenarios_after}
use Rattle.lang_laws.specs.Laws.{HasDistinctOutcomes, ScenariosDistinct}
use Rattle.lang_laws.proofs.Independence.{value_of, values_written}
use Rattle.lang_laws.proofs.ScenarioLaws.{after_each}

-- the values of a scenario
abbrev values_of : Scenario → List ℤ
values_of s = s.values

-- none of these is the same
abbrev Differs : List ℤ → List (List ℤ) → Type 0
Differs xs list = AllByRecursion (λ ys. same_values xs ys ≡ false) list

all_append : (P : List ℤ → Type 0) (xs ys : List (List ℤ)) → AllByRecursion P xs → AllByRecursion P ys → AllByRecursion P (xs ++ ys)
all_append P [] ys one two = two
all_append P (x ∷ xs) ys one two = (one.0, all_append P xs ys one.1 two)

distinct_append : (xs ys : List (List ℤ)) → IsDistinct same_values xs → IsDistinct same_values ys → AllByRecursion (λ x. Differs x ys) xs
    → IsDistinct same_values (xs ++ ys)
unfolding IsDistinct
distinct_append [] ys one two apart = two
distinct_append (x ∷ xs) ys one two apart =
    (all_append (λ y. same_values x y ≡ false) xs ys one.0 apart.0, distinct_append xs ys one.1 two apart.1)

-- an outcome before lists that differ
differ_behind : (o : ℕ × Outcome) (xs : List ℤ) (ss : List Scenario) → Differs xs (map values_of ss)
    → Differs (o.1.value ∷ xs) (map values_of (map (preceded_by o) ss))
differ_behind o xs [] differ = tt
differ_behind o xs (s ∷ ss) differ =
    (and_right (int_eq o.1.value o.1.value) (same_values xs s.values) differ.0, differ_behind o xs ss differ.1)

distinct_behind : (o : ℕ × Outcome) (ss : List Scenario) → IsDistinct same_values (map values_of ss)
    → IsDistinct same_values (map values_of (map (preceded_by o) ss))
unfolding IsDistinct
distinct_behind o [] distinct = tt
distinct_behind o (s ∷ ss) distinct = (differ_behind o s.values ss distinct.0, distinct_behind o ss distinct.1)

-- another outcome's scenarios differ
differ_here : (x : ℤ) (xs : List ℤ) (o : ℕ × Outcome) (ss : List Scenario) → int_eq x o.1.value ≡ false
    → Differs (x ∷ xs) (map values_of (map (preceded_by o) ss))
differ_here x xs o [] other = tt
differ_here x xs o (s ∷ ss) other =
    (and_left (int_eq x o.1.value) (same_values xs s.values) other, differ_here x xs o ss other)

differ_each : (x : ℤ) (xs : List ℤ) (places : List ℕ) (later : List Stochastic) (ds : List (ℕ × Outcome))
    → list_any (int_eq x) (map value_of ds) ≡ false → Differs (x ∷ xs) (map values_of (after_each places later ds))
differ_each x xs places later [] other = tt
differ_each x xs places later (d ∷ ds) other =
    let here : List Scenario = map (preceded_by d) (scenarios_after (places ++ d.0 ∷ []) later) in
    let rest : List Scenario = after_each places later ds in
    let parts : (int_eq x d.1.value ≡ false) × (list_any (int_eq x) (map value_of ds) ≡ false) =
    or_parts (int_eq x d.1.value) (list_any (int_eq x) (map value_of ds)) other in
    subst (Differs (x ∷ xs)) (sym (map-append values_of here rest))
    (all_append (λ ys. same_values (x ∷ xs) ys ≡ false) (map values_of here) (map values_of rest)
    (differ_here x xs d (scenarios_after (places ++ d.0 ∷ []) later) parts.0) (differ_each x xs places later ds parts.1))

apart_each : (o : ℕ × Outcome) (ss : List Scenario) (places : List ℕ) (later : List Stochastic) (ds : List (ℕ × Outcome))
    → list_any (int_eq o.1.value) (map value_of ds) ≡ false
    → AllByRecursion (λ x. Differs x (map values_of (after_each places later ds))) (map values_of (map (preceded_by o) ss))
apart_each o [] places later ds other = tt
apart_each o (s ∷ ss) places later ds other =
    (differ_each o.1.value s.values places later ds other, apart_each o ss places later ds other)

distinct_each : (places : List ℕ) (later : List Stochastic) (ds : List (ℕ × Outcome)) → all_distinct (map value_of ds) ≡ true
    → ((ps : List ℕ) → IsDistinct same_values (map values_of (scenarios_after ps later)))
    → IsDistinct same_values (map values_of (after_each places later ds))
unfolding IsDistinct
distinct_each places later [] outcomes each = tt
distinct_each places later (d ∷ ds) outcomes each =
    let after : List Scenario = scenarios_after (places ++ d.0 ∷ []) later in
    let here : List Scenario = map (preceded_by d) after in
    let rest : List Scenario = after_each places later ds in
    let parts : (not (list_any (int_eq d.1.value) (map value_of ds)) ≡ true) × (all_distinct (map value_of ds) ≡ true) =
    and_parts (not (list_any (int_eq d.1.value) (map value_of ds))) (all_distinct (map value_of ds)) outcomes in
    subst (IsDistinct same_values) (sym (map-append values_of here rest))
    (distinct_append (map values_of here) (map values_of rest) (distinct_behind d after (each (places ++ d.0 ∷ [])))
    (distinct_each places later ds parts.1 each)
    (apart_each d after places later ds (not_true (list_any (int_eq d.1.value) (map value_of ds)) parts.0)))

distinct : (ss : List Stochastic) → All HasDistinctOutcomes ss → (places : List ℕ) → IsDistinct same_values (map values_of (scenarios_after places ss))
unfolding IsDistinct
distinct [] all places = (tt, tt)
distinct (s ∷ ss) all places =
    distinct_each places ss (outcomes_after places s) (ap all_distinct (values_written places s) ∙ all 0 s (omega arith))
    (distinct ss (λ k d below. all (suc k) d (omega arith)))

pub scenarios_distinct : ScenariosDistinct
scenarios_distinct places ss all = distinct ss all places
