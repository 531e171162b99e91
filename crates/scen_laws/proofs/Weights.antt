-- The weights of scenarios.
use Rattle.std.proofs.Common.{◌≡◌, ◌++◌, ◌≤◌, ◌*◌, ℕ, ℤ, pos, negsuc, ◌+ℤ◌, ◌*ℤ◌, ◌≤ℤ◌, List, [], ◌∷◌, length, map, take, drop, arith, refl, sym, ap, subst, ◌∙◌}
use Rattle.std.proofs.Math.IntN.{pos-*ℤ-pos}
use Rattle.std.proofs.Math.Nat.{mul-le-mul}
use Rattle.std.proofs.lemmas.Int.{ints}
use Rattle.std.proofs.lemmas.List.{take-append-drop}
use Rattle.std.specs.List.{AllByRecursion, flat_map}
use Rattle.sopl_base.proofs.Lists.{all_append}
use Rattle.sopl_ast.specs.Instances.{Outcome, Stochastic, distribution}
use Rattle.sopl_ast.specs.Scenarios.{Scenario, preceded_by, outcomes_after, scenarios_after, scenarios, total_of, total_weight}
use Rattle.lang_laws.proofs.Independence.{outcome_of, outcomes_written}
use Rattle.unfold_laws.specs.Bounds.{IsBoundedOutcome, IsBoundedStochastic}
use Rattle.scen_laws.specs.Laws.{HasOutcome, weight_factor, WeightsMultiply, ScenariosAreLight}
use Rattle.scen_laws.proofs.Splits.{times_one}
use Rattle.scen_laws.proofs.Products.{product_of-append}
use Rattle.scen_laws.proofs.Counts.{first_part, last_part}

pub weights_multiply : WeightsMultiply
weights_multiply [] = refl
weights_multiply (s ∷ ss) = ap (λ z. total_of (distribution s) *ℤ z) (weights_multiply ss)

-- a number from 1 to another
abbrev pub Within : ℤ → ℤ → Type 0
Within most z = (pos 1 ≤ℤ z) × (z ≤ℤ most)

-- products of natural numbers from 1 to others
natural_products : (a most b other : ℕ) → 1 ≤ a → a ≤ most → 1 ≤ b → b ≤ other → Within (pos (most * other)) (pos (a * b))
natural_products a most b other one two three four =
    let least : 1 * 1 ≤ a * b = mul-le-mul one three in
    let greatest : a * b ≤ most * other = mul-le-mul two four in
    (omega (arith, ints), omega (arith, ints))

-- products of numbers from 1 to others
pub products_within : (a most b other : ℤ) → Within most a → Within other b → Within (most *ℤ other) (a *ℤ b)
products_within (pos a) (pos most) (pos b) (pos other) one two =
    subst (λ z. Within z (pos a *ℤ pos b)) (sym (pos-*ℤ-pos most other))
    (subst (Within (pos (most * other))) (sym (pos-*ℤ-pos a b))
    (natural_products a most b other (from_pos a one.0) (pos_below a most one.1) (from_pos b two.0) (pos_below b other two.1)))
  where
    from_pos : (n : ℕ) → pos 1 ≤ℤ pos n → 1 ≤ n
    from_pos n is = omega (arith, ints)

    pos_below : (n m : ℕ) → pos n ≤ℤ pos m → n ≤ m
    pos_below n m is = omega (arith, ints)
products_within (negsuc a) most b other one two = absurd (no_least a one.0)
  where
    no_least : (n : ℕ) → pos 1 ≤ℤ negsuc n → ⊥
    no_least n is = omega (arith, ints)
products_within (pos a) (negsuc most) b other one two = absurd (no_most a most one.1)
  where
    no_most : (n m : ℕ) → pos n ≤ℤ negsuc m → ⊥
    no_most n m is = omega (arith, ints)
products_within (pos a) (pos most) (negsuc b) other one two = absurd (no_least b two.0)
  where
    no_least : (n : ℕ) → pos 1 ≤ℤ negsuc n → ⊥
    no_least n is = omega (arith, ints)
products_within (pos a) (pos most) (pos b) (negsuc other) one two = absurd (no_most b other two.1)
  where
    no_most : (n m : ℕ) → pos n ≤ℤ negsuc m → ⊥
    no_most n m is = omega (arith, ints)

wider : (a b z : ℤ) → a ≤ℤ b → Within a z → Within b z
wider a b z order within = (within.0, omega (arith, ints, order, within.1))

-- more in front of a list
all_wider : (a b : ℤ) → a ≤ℤ b → (os : List Outcome) → AllByRecursion (λ (o : Outcome). Within a o.weight) os → AllByRecursion (λ (o : Outcome). Within b o.weight) os
all_wider a b order [] all = tt
all_wider a b order (o ∷ os) all = (wider a b o.weight order all.0, all_wider a b order os all.1)

at_least_zero : (os : List Outcome) → AllByRecursion IsBoundedOutcome os → pos 0 ≤ℤ total_of os
at_least_zero [] all = omega (arith, ints)
at_least_zero (o ∷ os) all =
    let least : pos 1 ≤ℤ o.weight = all.0.least in
    omega (arith, ints, least, at_least_zero os all.1)

-- each weight is at most the total
weights_within : (os : List Outcome) → AllByRecursion IsBoundedOutcome os → AllByRecursion (λ (o : Outcome). Within (total_of os) o.weight) os
weights_within [] all = tt
weights_within (o ∷ os) all =
    let least : pos 1 ≤ℤ o.weight = all.0.least in
    let rest : pos 0 ≤ℤ total_of os = at_least_zero os all.1 in
    ((least, omega (arith, ints)), all_wider (total_of os) (o.weight +ℤ total_of os) (omega (arith, ints)) os (weights_within os all.1))

-- a total is 1 at least
pub total_positive : (s : Stochastic) → HasOutcome s → IsBoundedStochastic s → pos 1 ≤ℤ total_of (distribution s)
total_positive s some bounded = first (distribution s) some bounded.outcomes
  where
    first : (os : List Outcome) → 1 ≤ length os → AllByRecursion IsBoundedOutcome os → pos 1 ≤ℤ total_of os
    first [] some all = absurd (omega (arith, some))
    first (o ∷ os) some all =
        let least : pos 1 ≤ℤ o.weight = all.0.least in
        omega (arith, ints, least, at_least_zero os all.1)

one_within : (z : ℤ) → pos 1 ≤ℤ z → Within z (pos 1)
one_within z least = (omega (arith, ints), least)

pub weight_positive : (ss : List Stochastic) → AllByRecursion HasOutcome ss → AllByRecursion IsBoundedStochastic ss → pos 1 ≤ℤ total_weight ss
weight_positive [] some all = omega (arith, ints)
weight_positive (s ∷ ss) some all =
    (products_within (total_of (distribution s)) (total_of (distribution s)) (total_weight ss) (total_weight ss)
    (total_positive s some.0 all.0, omega (arith, ints)) (weight_positive ss some.1 all.1, omega (arith, ints))).0

-- scenarios that weigh 1 at least, and so much at most
abbrev Light : ℤ → List Scenario → Type 0
Light most list = AllByRecursion (λ (s : Scenario). Within most s.weight) list

light_after : (most other : ℤ) (o : Outcome) → Within most o.weight → (list : List Scenario) → Light other list
    → Light (most *ℤ other) (map (preceded_by o) list)
light_after most other o here [] all = tt
light_after most other o here (s ∷ list) all =
    (products_within o.weight most s.weight other here all.0, light_after most other o here list all.1)

light_each : (most other : ℤ) (places : List ℕ) (later : List Stochastic) → ((ps : List ℕ) → Light other (scenarios_after ps later))
    → (ds : List (ℕ × Outcome)) → AllByRecursion (λ (drawn : ℕ × Outcome). Within most drawn.1.weight) ds
    → Light (most *ℤ other) (flat_map (λ (drawn : ℕ × Outcome). map (preceded_by drawn.1) (scenarios_after (places ++ drawn.0 ∷ []) later)) ds)
light_each most other places later light [] all = tt
light_each most other places later light (d ∷ ds) all =
    let here : List Scenario = scenarios_after (places ++ d.0 ∷ []) later in
    all_append (λ (s : Scenario). Within (most *ℤ other) s.weight) (map (preceded_by d.1) here)
    (flat_map (λ (drawn : ℕ × Outcome). map (preceded_by drawn.1) (scenarios_after (places ++ drawn.0 ∷ []) later)) ds)
    (light_after most other d.1 all.0 here (light (places ++ d.0 ∷ []))) (light_each most other places later light ds all.1)

-- each outcome after some places is at most the total
drawn_within : (places : List ℕ) (s : Stochastic) → IsBoundedStochastic s
    → AllByRecursion (λ (drawn : ℕ × Outcome). Within (total_of (distribution s)) drawn.1.weight) (outcomes_after places s)
drawn_within places s bounded =
    each (outcomes_after places s)
    (subst (AllByRecursion (λ (o : Outcome). Within (total_of (distribution s)) o.weight)) (sym (outcomes_written places s)) (weights_within (distribution s) bounded.outcomes))
  where
    each : (ds : List (ℕ × Outcome)) → AllByRecursion (λ (o : Outcome). Within (total_of (distribution s)) o.weight) (map outcome_of ds)
        → AllByRecursion (λ (drawn : ℕ × Outcome). Within (total_of (distribution s)) drawn.1.weight) ds
    each [] all = tt
    each (d ∷ ds) all = (all.0, each ds all.1)

light : (ss : List Stochastic) → AllByRecursion IsBoundedStochastic ss → (places : List ℕ) → Light (total_weight ss) (scenarios_after places ss)
light [] all places = (one_within (pos 1) (omega (arith, ints)), tt)
light (s ∷ ss) all places =
    light_each (total_of (distribution s)) (total_weight ss) places ss (light ss all.1) (outcomes_after places s) (drawn_within places s all.0)

light_wider : (a b : ℤ) → a ≤ℤ b → (list : List Scenario) → Light a list → Light b list
light_wider a b order [] all = tt
light_wider a b order (s ∷ list) all = (wider a b s.weight order all.0, light_wider a b order list all.1)

-- the total weight of two parts
pub weight-append : (xs ys : List Stochastic) → total_weight (xs ++ ys) ≡ total_weight xs *ℤ total_weight ys
weight-append xs ys =
    weights_multiply (xs ++ ys)
    ∙ (product_of-append weight_factor xs ys ∙ sym (λ i. weights_multiply xs i *ℤ weights_multiply ys i))

-- a prefix weighs no more
pub prefix_lighter : (n : ℕ) (ss : List Stochastic) → AllByRecursion HasOutcome ss → AllByRecursion IsBoundedStochastic ss
    → total_weight (take n ss) ≤ℤ total_weight ss
prefix_lighter n ss some all =
    let prefix : pos 1 ≤ℤ total_weight (take n ss) = weight_positive (take n ss) (first_part HasOutcome n ss some) (first_part IsBoundedStochastic n ss all) in
    let back : pos 1 ≤ℤ total_weight (drop n ss) = weight_positive (drop n ss) (last_part HasOutcome n ss some) (last_part IsBoundedStochastic n ss all) in
    subst (λ z. z ≤ℤ total_weight ss) (times_one (total_weight (take n ss)))
    (subst (λ z. (total_weight (take n ss) *ℤ pos 1) ≤ℤ z) (sym (weight-append (take n ss) (drop n ss)) ∙ ap total_weight (take-append-drop n ss))
    (products_within (total_weight (take n ss)) (total_weight (take n ss)) (pos 1) (total_weight (drop n ss))
    (prefix, omega (arith, ints)) (one_within (total_weight (drop n ss)) back)).1)

pub scenarios_are_light : ScenariosAreLight
scenarios_are_light n ss some all =
    light_wider (total_weight (take n ss)) (total_weight ss) (prefix_lighter n ss some all) (scenarios (take n ss))
    (light (take n ss) (first_part IsBoundedStochastic n ss all) [])
