-- The weights of scenarios, how they split, and that there is one.
use Rattle.std.proofs.Common.{◌≡◌, subst, All, length-append, ◌<◌, suc, length, ℕ, ◌+◌, ◌++◌, ℤ, pos, ◌+ℤ◌, ◌*ℤ◌, List, [], ◌∷◌, map, arith, refl, sym, ap, ◌∙◌}
use Rattle.std.proofs.Math.IntN.{zero-*ℤ, *ℤ-zero, +ℤ_assoc}
use Rattle.std.proofs.lemmas.Int.{ints}
use Rattle.std.proofs.lemmas.List.{map-append, length-map}
use Rattle.std.specs.List.{flat_map}
use Rattle.sopl_base.proofs.Lists.{flat_map-flat_map, map-flat_map, map-map, nothing_behind}
use Rattle.sopl_base.proofs.Integers.{*ℤ-+ℤ, *ℤ_assoc, +ℤ-*ℤ}
use Rattle.sopl_ast.specs.Numbers.{total}
use Rattle.sopl_ast.specs.Instances.{Outcome, Stochastic, distribution}
use Rattle.sopl_ast.specs.Scenarios as ast
use Rattle.sopl_ast.specs.Scenarios.{outcomes_after, total_of, total_weight}
use Rattle.sopl_ast.specs.PlacedScenarios.{Scenario, preceded_by, scenarios_after, without_places}
use Rattle.lang_laws.specs.Laws.{WeightsSum, ScenariosAgree, followed_by, ScenariosSplit, HasOutcomes, ScenariosAlive}
use Rattle.lang_laws.proofs.Independence.{outcome_of, outcomes_many, outcomes_written}
use Rattle.lang_laws.proofs.Integers.{one-*ℤ}

-- the weight of a scenario
abbrev pub weight_of : Scenario → ℤ
weight_of s = s.weight

-- the sum of two lists
pub total-append : (xs ys : List ℤ) → total (xs ++ ys) ≡ total xs +ℤ total ys
total-append [] ys = omega (arith, ints)
total-append (x ∷ xs) ys = ap (λ z. x +ℤ z) (total-append xs ys) ∙ sym (+ℤ_assoc x (total xs) (total ys))

-- an outcome multiplies the weights of the scenarios after it
total_after : (o : ℕ × Outcome) (xs : List Scenario) → total (map weight_of (map (preceded_by o) xs)) ≡ o.1.weight *ℤ total (map weight_of xs)
total_after o [] = sym (*ℤ-zero o.1.weight)
total_after o (x ∷ xs) =
    ap (λ z. (o.1.weight *ℤ x.weight) +ℤ z) (total_after o xs) ∙ sym (*ℤ-+ℤ o.1.weight x.weight (total (map weight_of xs)))

-- the scenarios after each of some outcomes
abbrev pub after_each : List ℕ → List Stochastic → List (ℕ × Outcome) → List Scenario
after_each places later ds = flat_map (λ (drawn : ℕ × Outcome). map (preceded_by drawn) (scenarios_after (places ++ drawn.0 ∷ []) later)) ds

-- their weights, where those of the later variables weigh the same after each
total_each : (places : List ℕ) (later : List Stochastic) (w : ℤ) (ds : List (ℕ × Outcome))
    → ((ps : List ℕ) → total (map weight_of (scenarios_after ps later)) ≡ w)
    → total (map weight_of (after_each places later ds)) ≡ total_of (map outcome_of ds) *ℤ w
total_each places later w [] same = sym (zero-*ℤ w)
total_each places later w (d ∷ ds) same =
    let rest : List Scenario = after_each places later ds in
    let here : List Scenario = scenarios_after (places ++ d.0 ∷ []) later in
    ap total (map-append weight_of (map (preceded_by d) here) rest)
    ∙ (total-append (map weight_of (map (preceded_by d) here)) (map weight_of rest)
    ∙ (ap (λ z. z +ℤ total (map weight_of rest)) (total_after d here ∙ ap (λ z. d.1.weight *ℤ z) (same (places ++ d.0 ∷ [])))
    ∙ (ap (λ z. (d.1.weight *ℤ w) +ℤ z) (total_each places later w ds same) ∙ sym (+ℤ-*ℤ d.1.weight (total_of (map outcome_of ds)) w))))

weights_sum_after : (ss : List Stochastic) (places : List ℕ) → total (map weight_of (scenarios_after places ss)) ≡ total_weight ss
weights_sum_after [] places = refl
weights_sum_after (s ∷ ss) places =
    total_each places ss (total_weight ss) (outcomes_after places s) (weights_sum_after ss)
    ∙ ap (λ os. total_of os *ℤ total_weight ss) (outcomes_written places s)

pub weights_sum : WeightsSum
weights_sum ss = weights_sum_after ss []

-- Lists of lists.

append-assoc : {A : Type 0} (xs ys zs : List A) → (xs ++ ys) ++ zs ≡ xs ++ (ys ++ zs)
append-assoc [] ys zs = refl
append-assoc (x ∷ xs) ys zs = ap (λ more. x ∷ more) (append-assoc xs ys zs)

pub map-same : {A : Type 0} (f : A → A) (same : (x : A) → f x ≡ x) (xs : List A) → map f xs ≡ xs
map-same f same [] = refl
map-same f same (x ∷ xs) = λ i. same x i ∷ map-same f same xs i

flat_map-map : {A B C : Type 0} (f : B → List C) (g : A → B) (xs : List A) → flat_map f (map g xs) ≡ flat_map (λ x. f (g x)) xs
flat_map-map f g [] = refl
flat_map-map f g (x ∷ xs) = ap (λ more. f (g x) ++ more) (flat_map-map f g xs)

-- Scenarios without their places.

agree_each : (places : List ℕ) (later : List Stochastic) (ds : List (ℕ × Outcome))
    → ((ps : List ℕ) → map without_places (scenarios_after ps later) ≡ ast.scenarios_after ps later)
    → map without_places (after_each places later ds)
    ≡ flat_map (λ (drawn : ℕ × Outcome). map (ast.preceded_by drawn.1) (ast.scenarios_after (places ++ drawn.0 ∷ []) later)) ds
agree_each places later [] same = refl
agree_each places later (d ∷ ds) same =
    let rest : List Scenario = after_each places later ds in
    let here : List Scenario = scenarios_after (places ++ d.0 ∷ []) later in
    let first : map without_places (map (preceded_by d) here) ≡ map (ast.preceded_by d.1) (ast.scenarios_after (places ++ d.0 ∷ []) later) =
    map-map without_places (preceded_by d) here
    ∙ (sym (map-map (ast.preceded_by d.1) without_places here) ∙ ap (map (ast.preceded_by d.1)) (same (places ++ d.0 ∷ []))) in
    map-append without_places (map (preceded_by d) here) rest
    ∙ λ i. first i ++ agree_each places later ds same i

agree_after : (ss : List Stochastic) (places : List ℕ) → map without_places (scenarios_after places ss) ≡ ast.scenarios_after places ss
agree_after [] places = refl
agree_after (s ∷ ss) places = agree_each places ss (outcomes_after places s) (agree_after ss)

pub scenarios_agree : ScenariosAgree
scenarios_agree ss = agree_after ss []

-- Scenarios of variables in two parts.

-- what follows the scenario of no variable is itself
followed : (s : Scenario) → followed_by (record { places = []; values = []; weight = pos 1 }) s ≡ s
followed s = λ i. record { places = s.places; values = s.values; weight = one-*ℤ s.weight i }

-- an outcome before two parts, or before the first of them
drawn_first : (o : ℕ × Outcome) (s later : Scenario) → preceded_by o (followed_by s later) ≡ followed_by (preceded_by o s) later
drawn_first o s later =
    λ i. record { places = o.0 ∷ (s.places ++ later.places); values = o.1.value ∷ (s.values ++ later.values); weight = sym (*ℤ_assoc o.1.weight s.weight later.weight) i }

-- the scenarios of the second part behind one of the first
behind : List ℕ → List Stochastic → Scenario → List Scenario
behind places ys s = map (followed_by s) (scenarios_after (places ++ s.places) ys)

drawn_behind : (places : List ℕ) (ys : List Stochastic) (o : ℕ × Outcome) (s : Scenario)
    → map (preceded_by o) (behind (places ++ o.0 ∷ []) ys s) ≡ behind places ys (preceded_by o s)
unfolding behind
drawn_behind places ys o s =
    map-map (preceded_by o) (followed_by s) (scenarios_after ((places ++ o.0 ∷ []) ++ s.places) ys)
    ∙ ((λ i. map (λ later. drawn_first o s later i) (scenarios_after ((places ++ o.0 ∷ []) ++ s.places) ys))
    ∙ ap (λ ps. map (followed_by (preceded_by o s)) (scenarios_after ps ys)) (append-assoc places (o.0 ∷ []) s.places))

drawn_split : (places : List ℕ) (ys : List Stochastic) (o : ℕ × Outcome) (ss : List Scenario)
    → map (preceded_by o) (flat_map (behind (places ++ o.0 ∷ []) ys) ss) ≡ flat_map (behind places ys) (map (preceded_by o) ss)
drawn_split places ys o ss =
    map-flat_map (preceded_by o) (behind (places ++ o.0 ∷ []) ys) ss
    ∙ ((λ i. flat_map (λ s. drawn_behind places ys o s i) ss) ∙ sym (flat_map-map (behind places ys) (preceded_by o) ss))

split : (places : List ℕ) (xs ys : List Stochastic) → scenarios_after places (xs ++ ys) ≡ flat_map (behind places ys) (scenarios_after places xs)
unfolding behind
split places [] ys =
    sym (ap (λ ps. map (followed_by (record { places = []; values = []; weight = pos 1 })) (scenarios_after ps ys) ++ []) (nothing_behind places)
    ∙ (nothing_behind (map (followed_by (record { places = []; values = []; weight = pos 1 })) (scenarios_after places ys))
    ∙ map-same (followed_by (record { places = []; values = []; weight = pos 1 })) followed (scenarios_after places ys)))
split places (x ∷ xs) ys =
    let each : List (ℕ × Outcome) = outcomes_after places x in
    (λ i. flat_map (λ (drawn : ℕ × Outcome). map (preceded_by drawn) (split (places ++ drawn.0 ∷ []) xs ys i)) each)
    ∙ ((λ i. flat_map (λ (drawn : ℕ × Outcome). drawn_split places ys drawn (scenarios_after (places ++ drawn.0 ∷ []) xs) i) each)
    ∙ sym (flat_map-flat_map (behind places ys) (λ (drawn : ℕ × Outcome). map (preceded_by drawn) (scenarios_after (places ++ drawn.0 ∷ []) xs)) each))

pub scenarios_split : ScenariosSplit
unfolding behind
scenarios_split places xs ys = split places xs ys

-- Where outcomes are there, scenarios are there.

alive_each : (places : List ℕ) (later : List Stochastic) (ds : List (ℕ × Outcome)) → 0 < length ds
    → ((ps : List ℕ) → 0 < length (scenarios_after ps later)) → 0 < length (after_each places later ds)
alive_each places later [] some each = absurd (omega arith)
alive_each places later (d ∷ ds) some each =
    let here : List Scenario = scenarios_after (places ++ d.0 ∷ []) later in
    omega (arith, length-append (map (preceded_by d) here) (after_each places later ds), length-map here (preceded_by d), each (places ++ d.0 ∷ []))

alive : (ss : List Stochastic) → All HasOutcomes ss → (places : List ℕ) → 0 < length (scenarios_after places ss)
alive [] all places = omega arith
alive (s ∷ ss) all places =
    let some : 0 < length (distribution s) = all 0 s (omega arith) in
    alive_each places ss (outcomes_after places s) (omega (arith, some, outcomes_many places s)) (alive ss (λ k d below. all (suc k) d (omega arith)))

pub scenarios_alive : ScenariosAlive
scenarios_alive places ss all = alive ss all places

-- some scenario is among those of the definitions
pub some_scenario : (ss : List Stochastic) → All HasOutcomes ss → 0 < length (ast.scenarios ss)
some_scenario ss all =
    subst (λ (found : List ast.Scenario). 0 < length found) (agree_after ss [])
    (omega (arith, length-map (scenarios_after [] ss) without_places, alive ss all []))
