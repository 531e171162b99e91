-- Each stochastic variable is independent of those before it: after any places it has the outcomes of its distribution. All laws that hold for this
-- reason alone rest on this file.
use Rattle.std.proofs.Common.{◌≡◌, ℕ, ◌+◌, ◌++◌, ℤ, List, [], ◌∷◌, length, map, refl, sym, ap, ◌∙◌}
use Rattle.std.proofs.lemmas.List.{length-map}
use Rattle.std.specs.List.{flat_map, enumerate_from}
use Rattle.sopl_base.proofs.Lists.{map-map}
use Rattle.sopl_ast.specs.Instances.{Outcome, Stochastic, distribution}
use Rattle.sopl_ast.specs.Scenarios.{Scenario, preceded_by, outcomes_after, scenarios_after, scenarios}

-- an outcome without its place
abbrev pub outcome_of : ℕ × Outcome → Outcome
outcome_of drawn = drawn.1

-- the value of an outcome with its place
abbrev pub value_of : ℕ × Outcome → ℤ
value_of drawn = drawn.1.value

without_numbers : (n : ℕ) (os : List Outcome) → map outcome_of (enumerate_from n os) ≡ os
without_numbers n [] = refl
without_numbers n (o ∷ os) = ap (λ more. o ∷ more) (without_numbers (n + 1) os)

-- the outcomes after any places are those of the distribution
pub outcomes_written : (places : List ℕ) (s : Stochastic) → map outcome_of (outcomes_after places s) ≡ distribution s
outcomes_written places s = without_numbers 0 (distribution s)

pub outcomes_many : (places : List ℕ) (s : Stochastic) → length (outcomes_after places s) ≡ length (distribution s)
outcomes_many places s = sym (length-map (outcomes_after places s) outcome_of) ∙ ap length (outcomes_written places s)

pub values_written : (places : List ℕ) (s : Stochastic) → map value_of (outcomes_after places s) ≡ map (λ (o : Outcome). o.value) (distribution s)
values_written places s =
    sym (map-map (λ (o : Outcome). o.value) outcome_of (outcomes_after places s)) ∙ ap (map (λ (o : Outcome). o.value)) (outcomes_written places s)

-- scenarios begin with an outcome of the first variable, where those of the later variables are the same after any places
begin_each : (places : List ℕ) (ss : List Stochastic) → ((ps : List ℕ) → scenarios_after ps ss ≡ scenarios ss) → (ds : List (ℕ × Outcome))
    → flat_map (λ (drawn : ℕ × Outcome). map (preceded_by drawn.1) (scenarios_after (places ++ drawn.0 ∷ []) ss)) ds
    ≡ flat_map (λ (o : Outcome). map (preceded_by o) (scenarios ss)) (map outcome_of ds)
begin_each places ss same [] = refl
begin_each places ss same (d ∷ ds) = λ i. map (preceded_by d.1) (same (places ++ d.0 ∷ []) i) ++ begin_each places ss same ds i

begin_after : (places : List ℕ) (s : Stochastic) (ss : List Stochastic) → ((ps : List ℕ) → scenarios_after ps ss ≡ scenarios ss)
    → scenarios_after places (s ∷ ss) ≡ flat_map (λ (o : Outcome). map (preceded_by o) (scenarios ss)) (distribution s)
begin_after places s ss same =
    begin_each places ss same (outcomes_after places s)
    ∙ ap (flat_map (λ (o : Outcome). map (preceded_by o) (scenarios ss))) (outcomes_written places s)

-- scenarios are the same after any places
pub scenarios_alike : (ss : List Stochastic) (places : List ℕ) → scenarios_after places ss ≡ scenarios ss
scenarios_alike [] places = refl
scenarios_alike (s ∷ ss) places = begin_after places s ss (scenarios_alike ss) ∙ sym (begin_after [] s ss (scenarios_alike ss))

-- scenarios are each outcome of the first variable before each scenario of the later ones
pub scenarios_begin : (s : Stochastic) (ss : List Stochastic) → scenarios (s ∷ ss) ≡ flat_map (λ (o : Outcome). map (preceded_by o) (scenarios ss)) (distribution s)
scenarios_begin s ss = begin_after [] s ss (scenarios_alike ss)
