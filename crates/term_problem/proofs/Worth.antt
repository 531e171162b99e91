-- A point that satisfies is worth something.
use Rattle.std.proofs.Common.{◌≡◌, refl, sym, subst, arith, ℕ, zero, suc, ◌≤◌, ℤ, pos, ◌+ℤ◌, ◌*ℤ◌, Bool, true, false, if◌then◌else◌, List, [], ◌∷◌, length, All, Option, Some, None, IsSome, IfSome}
use Rattle.std.specs.Option.{option_map_or}
use Rattle.sopl_base.specs.declared.direction.Direction.TheVariants.{Nothing}
use Rattle.term_language.specs.Terms.{Term}
use Rattle.term_language.specs.Values.{both_of, value}
use Rattle.term_problem.specs.Laws.{PointsHaveValues}
use Rattle.term_problem.specs.Points.{expected_value, worse, worst_value, goal_value, worth}
use Rattle.term_problem.specs.Problems.{GoalTerms, ProblemTerms}

-- values are there where those of all terms are
both_there : (f : ℤ → ℤ → ℤ) (a b : Option ℤ) → IsSome a → IsSome b → IsSome (both_of f a b)
both_there f None b first later = first
both_there f (Some x) None first later = later
both_there f (Some x) (Some y) first later = refl

module _ (point : List ℤ) where
  abbrev AreThere : List Term → Type 0
  AreThere terms = All (λ term. IsSome (value point term)) terms

  pub behind_first : (first : Term) (later : List Term) → AreThere (first ∷ later) → AreThere later
  behind_first first later all k d below = all (suc k) d (omega (arith, below))

  expected_there : (weights : List ℤ) (terms : List Term) → AreThere terms → IsSome (expected_value point weights terms)
  expected_there [] terms all = refl
  expected_there (weight ∷ weights) [] all = refl
  expected_there (weight ∷ weights) (term ∷ later) all =
      both_there (λ x y. (weight *ℤ x) +ℤ y) (value point term) (expected_value point weights later) (all zero term (omega arith))
      (expected_there weights later (behind_first term later all))

  worst_there : (choose : ℤ → ℤ → ℤ) (terms : List Term) → 1 ≤ length terms → AreThere terms → IsSome (worst_value choose point terms)
  worst_there choose [] some all = absurd (omega (arith, some))
  worst_there choose (last ∷ []) some all = all zero last (omega arith)
  worst_there choose (first ∷ second ∷ later) some all =
      both_there choose (value point first) (worst_value choose point (second ∷ later)) (all zero first (omega arith))
      (worst_there choose (second ∷ later) (omega arith) (behind_first first (second ∷ later) all))

  goal_there : (weights : List ℤ) (goal : GoalTerms) → 1 ≤ length goal.terms → AreThere goal.terms → IsSome (goal_value point weights goal)
  goal_there weights goal some all = by_worst goal.worst
    where
      by_worst : (w : Bool) → IsSome (if w then worst_value (worse goal.direction) point goal.terms else expected_value point weights goal.terms)
      by_worst true = worst_there (worse goal.direction) goal.terms some all
      by_worst false = expected_there weights goal.terms all

  pub worth_there : (weights : List ℤ) (goal : Option GoalTerms) → IfSome goal (λ (g : GoalTerms). 1 ≤ length g.terms) → IfSome goal (λ (g : GoalTerms). AreThere g.terms)
      → IsSome (option_map_or (goal_value point weights) goal (Some (pos 0)))
  worth_there weights None some all = refl
  worth_there weights (Some goal) some all = goal_there weights goal some all

-- a well made objective has a term
pub some_terms : (terms : ProblemTerms) → 1 ≤ length terms.weights → (goal : Option GoalTerms)
    → IfSome goal (λ (g : GoalTerms). (length g.terms ≡ length terms.weights) × (¬ g.direction ≡ Nothing)) → IfSome goal (λ (g : GoalTerms). 1 ≤ length g.terms)
some_terms terms first None made = tt
some_terms terms first (Some goal) made = subst (λ (n : ℕ). 1 ≤ n) (sym made.0) first

pub there_is : (o : Option ℤ) → IsSome o → (x : ℤ) × (o ≡ Some x)
there_is None there = absurd (cc)
there_is (Some x) there = (x, refl)

pub points_have_values : PointsHaveValues
points_have_values terms point is all =
    there_is (worth terms point) (worth_there point terms.weights terms.goal (some_terms terms is.first terms.goal is.goal) all.goal)
