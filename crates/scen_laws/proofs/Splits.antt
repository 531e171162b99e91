-- Scenarios of variables in two parts.
use Rattle.std.proofs.Common.{◌≡◌, ◌++◌, ℕ, ℤ, pos, ◌*ℤ◌, List, [], ◌∷◌, map, sym, ap, ◌∙◌}
use Rattle.std.proofs.Math.IntN.{*ℤ_comm}
use Rattle.std.proofs.lemmas.List.{append-nil}
use Rattle.std.proofs.lemmas.List.Concat.{flat_map_single}
use Rattle.std.proofs.lemmas.List.Folds.{flat_map-map}
use Rattle.std.specs.List.{flat_map}
use Rattle.sopl_base.proofs.Integers.{*ℤ_assoc}
use Rattle.sopl_base.proofs.Lists.{flat_map-flat_map, map-flat_map, map-map}
use Rattle.sopl_ast.specs.Instances.{Outcome, Stochastic, distribution}
use Rattle.sopl_ast.specs.Scenarios.{Scenario, preceded_by, outcomes_after, scenarios_after, scenarios}
use Rattle.lang_laws.proofs.Independence.{scenarios_alike, scenarios_begin}
use Rattle.lang_laws.proofs.Integers.{one-*ℤ}
use Rattle.lang_laws.proofs.ScenarioLaws.{map-same}
use Rattle.scen_laws.specs.Laws.{followed, extended, ScenariosSplit, ScenariosExtend}

-- the scenario of no variable
abbrev nothing : Scenario
nothing = record { values = []; weight = pos 1 }

-- what follows it is itself
followed_nothing : (s : Scenario) → followed nothing s ≡ s
followed_nothing s = λ i. record { values = s.values; weight = one-*ℤ s.weight i }

-- an outcome before two parts, or before the first of them
drawn_first : (o : Outcome) (s later : Scenario) → preceded_by o (followed s later) ≡ followed (preceded_by o s) later
drawn_first o s later =
    λ i. record { values = o.value ∷ (s.values ++ later.values); weight = sym (*ℤ_assoc o.weight s.weight later.weight) i }

-- the scenarios of the second part behind one of the first
unfoldable pub behind : List Stochastic → Scenario → List Scenario
behind ys s = map (followed s) (scenarios ys)

drawn_behind : (ys : List Stochastic) (o : Outcome) (s : Scenario) → map (preceded_by o) (behind ys s) ≡ behind ys (preceded_by o s)
unfolding behind
drawn_behind ys o s =
    map-map (preceded_by o) (followed s) (scenarios ys) ∙ (λ i. map (λ later. drawn_first o s later i) (scenarios ys))

drawn_split : (ys : List Stochastic) (o : Outcome) (ss : List Scenario)
    → map (preceded_by o) (flat_map (behind ys) ss) ≡ flat_map (behind ys) (map (preceded_by o) ss)
drawn_split ys o ss =
    map-flat_map (preceded_by o) (behind ys) ss
    ∙ ((λ i. flat_map (λ s. drawn_behind ys o s i) ss) ∙ sym (flat_map-map (behind ys) (preceded_by o) ss))

split_after : (xs ys : List Stochastic) (places : List ℕ) → scenarios_after places (xs ++ ys) ≡ flat_map (behind ys) (scenarios_after places xs)
unfolding behind
split_after [] ys places =
    scenarios_alike ys places
    ∙ sym (append-nil (map (followed nothing) (scenarios ys)) ∙ map-same (followed nothing) followed_nothing (scenarios ys))
split_after (x ∷ xs) ys places =
    let each : List (ℕ × Outcome) = outcomes_after places x in
    (λ i. flat_map (λ (drawn : ℕ × Outcome). map (preceded_by drawn.1) (split_after xs ys (places ++ drawn.0 ∷ []) i)) each)
    ∙ ((λ i. flat_map (λ (drawn : ℕ × Outcome). drawn_split ys drawn.1 (scenarios_after (places ++ drawn.0 ∷ []) xs) i) each)
    ∙ sym (flat_map-flat_map (behind ys) (λ (drawn : ℕ × Outcome). map (preceded_by drawn.1) (scenarios_after (places ++ drawn.0 ∷ []) xs)) each))

pub split : (xs ys : List Stochastic) → scenarios (xs ++ ys) ≡ flat_map (behind ys) (scenarios xs)
split xs ys = split_after xs ys []

pub scenarios_split : ScenariosSplit
unfolding behind
scenarios_split xs ys = split xs ys

-- One variable.

-- the scenario of an outcome alone
abbrev alone : Outcome → Scenario
alone o = record { values = o.value ∷ []; weight = o.weight *ℤ pos 1 }

-- a number once
pub times_one : (a : ℤ) → a *ℤ pos 1 ≡ a
times_one a = *ℤ_comm a (pos 1) ∙ one-*ℤ a

extended_is : (p : Scenario) (o : Outcome) → followed p (alone o) ≡ extended p o
extended_is p o = λ i. record { values = p.values ++ o.value ∷ []; weight = p.weight *ℤ times_one o.weight i }

behind_one : (s : Stochastic) (p : Scenario) → behind (s ∷ []) p ≡ map (extended p) (distribution s)
unfolding behind
behind_one s p =
    ap (map (followed p)) (scenarios_begin s [] ∙ flat_map_single alone (distribution s))
    ∙ (map-map (followed p) alone (distribution s) ∙ (λ i. map (λ o. extended_is p o i) (distribution s)))

pub scenarios_extend : ScenariosExtend
scenarios_extend xs s = split xs (s ∷ []) ∙ (λ i. flat_map (λ p. behind_one s p i) (scenarios xs))
