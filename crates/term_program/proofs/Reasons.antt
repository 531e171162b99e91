-- The constraint that a reason names.
use Rattle.std.proofs.Common.{◌≡◌, ◌∙◌, refl, ap, sym, subst, arith, ℕ, ◌<◌, zero, suc, ℤ, ◌*ℤ◌, ◌≤ℤ◌, Bool, true, false, not, ◌↔◌, IsTrue, int_lt, List, [], ◌∷◌, map, length}
use Rattle.std.proofs.Common.{Option, Some, None, option_map, slice_get}
use Rattle.std.proofs.lemmas.Int.{ints}
use Rattle.std.proofs.lemmas.List.{length-map}
use Rattle.std.proofs.lemmas.Option.{slice_get-map}
use Rattle.std.specs.Option.{option_map_or, option_and_then}
use Rattle.std.specs.List.{AllByRecursion}
use Rattle.sopl_base.proofs.Lists.{all_at}
use Rattle.box_problem.specs.Box.{Box}
use Rattle.term_language.specs.Rules.{Near, truth}
use Rattle.term_language.specs.Terms.{Cond}
use Rattle.term_language.proofs.FormValues.{by_bool}
use Rattle.term_problem.specs.Problems.{ChanceTerms, ProblemTerms, IsChance}
use Rattle.term_problem.specs.Refuted.{is_false, weight_left}
use Rattle.term_nodes.specs.Built.{AllBelow}
use Rattle.term_nodes.specs.Things.{Thing, cond_at}
use Rattle.term_program.specs.declared.draft.Conditions.{Conditions}
use Rattle.term_program.specs.declared.draft.ChanceConditions.{ChanceConditions}
use Rattle.term_program.specs.Drafts.{HasConditions, IsThreshold, conditions_of, chance_of}

-- hard constraints
abbrev falls : Box → Box → Option Cond → Bool
falls root b o = option_map_or (λ condition. is_false (truth Near root b condition)) o false

pub hard_there : (root b : Box) (things : List Thing) (hards : List Conditions) (i s : ℕ) (c : Conditions) → slice_get hards i ≡ Some c → falls root b (slice_get (conditions_of things c) s)
    ≡ falls root b (option_and_then (λ conditions. slice_get conditions s) (slice_get (map (conditions_of things) hards) i))
hard_there root b things hards i s c is =
    sym (ap (λ (o : Option (List Cond)). falls root b (option_and_then (λ conditions. slice_get conditions s) o)) (slice_get-map (conditions_of things) hards i
    ∙ ap (λ (o : Option Conditions). option_map (conditions_of things) o) is))

pub hard_missing : (root b : Box) (things : List Thing) (hards : List Conditions) (i s : ℕ) → slice_get hards i ≡ None → false
    ≡ falls root b (option_and_then (λ conditions. slice_get conditions s) (slice_get (map (conditions_of things) hards) i))
hard_missing root b things hards i s is =
    sym (ap (λ (o : Option (List Cond)). falls root b (option_and_then (λ conditions. slice_get conditions s) o)) (slice_get-map (conditions_of things) hards i
    ∙ ap (λ (o : Option Conditions). option_map (conditions_of things) o) is))

-- chance constraints
abbrev fewer : Box → Box → List ℤ → ℤ → ChanceTerms → Bool
fewer root b weights whole chance = int_lt (chance.q *ℤ weight_left root b weights chance.conditions) (chance.p *ℤ whole)

pub chance_there : (root b : Box) (things : List Thing) (weights : List ℤ) (whole : ℤ) (chances : List ChanceConditions) (i : ℕ) (c : ChanceConditions) → slice_get chances i ≡ Some c
    → fewer root b weights whole (chance_of things c) ≡ option_map_or (fewer root b weights whole) (slice_get (map (chance_of things) chances) i) false
chance_there root b things weights whole chances i c is =
    sym (ap (λ (o : Option ChanceTerms). option_map_or (fewer root b weights whole) o false) (slice_get-map (chance_of things) chances i
    ∙ ap (λ (o : Option ChanceConditions). option_map (chance_of things) o) is))

pub chance_missing : (root b : Box) (things : List Thing) (weights : List ℤ) (whole : ℤ) (chances : List ChanceConditions) (i : ℕ) → slice_get chances i ≡ None → false
    ≡ option_map_or (fewer root b weights whole) (slice_get (map (chance_of things) chances) i) false
chance_missing root b things weights whole chances i is =
    sym (ap (λ (o : Option ChanceTerms). option_map_or (fewer root b weights whole) o false) (slice_get-map (chance_of things) chances i
    ∙ ap (λ (o : Option ChanceConditions). option_map (chance_of things) o) is))

pub threshold_at : (chances : List ChanceConditions) (i : ℕ) (c : ChanceConditions) → AllByRecursion IsThreshold chances → slice_get chances i ≡ Some c → IsThreshold c
threshold_at chances i c all is = all_at IsThreshold chances i c all is

pub chance_each : (terms : ProblemTerms) (things : List Thing) (chances : List ChanceConditions) (i : ℕ) (c : ChanceConditions) → AllByRecursion (IsChance terms) (map (chance_of things) chances)
    → slice_get chances i ≡ Some c → length c.conditions.ids.items ≡ length terms.weights
chance_each terms things [] i c all is = cc
chance_each terms things (x ∷ xs) zero c all is = sym (length-map c.conditions.ids.items _)
    ∙ subst (λ (y : ChanceConditions). length (conditions_of things y.conditions) ≡ length terms.weights) (same x c is) all.0.each
  where
    same : (x c : ChanceConditions) → Some x ≡ Some c → x ≡ c
    same x c e = cc
chance_each terms things (x ∷ xs) (suc i) c all is = chance_each terms things xs i c all.1 is

-- a sum of weights that does not reach a threshold
pub unreached : (r : Bool) (a b : ℤ) → (IsTrue r ↔ (a ≤ℤ b)) → not r ≡ int_lt b a
unreached true a b tells = let reached = tells.0 refl in grind (arith, ints)
unreached false a b tells =
    by_bool (λ t. int_lt b a ≡ t → true ≡ int_lt b a) (int_lt b a) (λ met is. sym is)
    (λ unmet is. let below : a ≤ℤ b = grind (arith, ints, is) in absurd (no (tells.1 below))) refl
  where
    no : ¬ (IsTrue false)
    no e = cc

-- the condition of a constraint in a scenario
module _ (things : List Thing) (i s x : ℕ) where
  pub hard_at : (hards : List Conditions) (c : Conditions) → slice_get hards i ≡ Some c → slice_get c.ids.items s ≡ Some x
      → option_and_then (λ conditions. slice_get conditions s) (slice_get (map (conditions_of things) hards) i) ≡ Some (cond_at things x)
  hard_at hards c there is =
      ap (λ (o : Option (List Cond)). option_and_then (λ conditions. slice_get conditions s) o) (slice_get-map (conditions_of things) hards i
      ∙ ap (λ (o : Option Conditions). option_map (conditions_of things) o) there)
      ∙ slice_get-map (cond_at things) c.ids.items s ∙ ap (λ (o : Option ℕ). option_map (cond_at things) o) is

  pub chance_at : (chances : List ChanceConditions) (c : ChanceConditions) → slice_get chances i ≡ Some c → slice_get c.conditions.ids.items s ≡ Some x
      → option_and_then (λ (chance : ChanceTerms). slice_get chance.conditions s) (slice_get (map (chance_of things) chances) i) ≡ Some (cond_at things x)
  chance_at chances c there is =
      ap (λ (o : Option ChanceTerms). option_and_then (λ (chance : ChanceTerms). slice_get chance.conditions s) o) (slice_get-map (chance_of things) chances i
      ∙ ap (λ (o : Option ChanceConditions). option_map (chance_of things) o) there)
      ∙ slice_get-map (cond_at things) c.conditions.ids.items s ∙ ap (λ (o : Option ℕ). option_map (cond_at things) o) is

pub hard_each : (things : List Thing) (hards : List Conditions) (i n : ℕ) (c : Conditions) → AllByRecursion (λ (conditions : List Cond). length conditions ≡ n) (map (conditions_of things) hards)
    → slice_get hards i ≡ Some c → length c.ids.items ≡ n
hard_each things [] i n c all is = cc
hard_each things (x ∷ xs) zero n c all is =
    sym (length-map c.ids.items (cond_at things)) ∙ subst (λ (y : Conditions). length (conditions_of things y) ≡ n) (same x c is) all.0
  where
    same : (x c : Conditions) → Some x ≡ Some c → x ≡ c
    same x c e = cc
hard_each things (x ∷ xs) (suc i) n c all is = hard_each things xs i n c all.1 is

-- the conditions of a constraint exist
module _ (n : ℕ) where
  pub hard_exist : (hards : List Conditions) (i : ℕ) (c : Conditions) → AllByRecursion (HasConditions n) hards → slice_get hards i ≡ Some c → HasConditions n c
  hard_exist hards i c all is = all_at (HasConditions n) hards i c all is

  pub chance_exist : (chances : List ChanceConditions) (i : ℕ) (c : ChanceConditions) → AllByRecursion (λ (c : ChanceConditions). HasConditions n c.conditions) chances → slice_get chances i
      ≡ Some c → HasConditions n c.conditions
  chance_exist chances i c all is = all_at (λ (c : ChanceConditions). HasConditions n c.conditions) chances i c all is

  pub condition_exists : (ids : List ℕ) (i x : ℕ) → AllBelow n ids → slice_get ids i ≡ Some x → x < n
  condition_exists [] i x all is = cc
  condition_exists (y ∷ ys) zero x all is = subst (λ (z : ℕ). z < n) (same y x is) all.0
    where
      same : (y x : ℕ) → Some y ≡ Some x → y ≡ x
      same y x e = cc
  condition_exists (y ∷ ys) (suc i) x all is = condition_exists ys i x all.1 is
