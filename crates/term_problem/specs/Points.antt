-- What a problem in terms says at a point.
use Rattle.std.specs.Prelude.{ℤ, pos, ◌+ℤ◌, ◌*ℤ◌, ◌≤ℤ◌, List, [], ◌∷◌, All, Option, Some, None, IsSome, IfSome, IsTrue, if◌then◌else◌}
use Rattle.std.specs.Option.{option_map_or}
use Rattle.std.specs.Int.{int_min, int_max}
use Rattle.sopl_base.specs.declared.direction.Direction.{Direction}
use Rattle.sopl_base.specs.declared.direction.Direction.TheVariants.{Minimize, Maximize, Nothing}
use Rattle.term_language.specs.Terms.{Term, Cond}
use Rattle.term_language.specs.Values.{both_of, value, holds}
use Rattle.term_problem.specs.Problems.{ChanceTerms, GoalTerms, ProblemTerms}

-- the weight of the scenarios in which a condition holds
abbrev pub weight_where : List ℤ → List ℤ → List Cond → ℤ
weight_where point [] conditions = pos 0
weight_where point (weight ∷ weights) [] = pos 0
weight_where point (weight ∷ weights) (condition ∷ later) =
    if holds point condition then weight +ℤ weight_where point weights later else weight_where point weights later

-- a point satisfies: each hard constraint's conditions hold, each chance constraint's hold in scenarios that weigh at least p / q of all, and the
-- objective's terms, where there are any, are defined
pub record Holds (terms : ProblemTerms) (point : List ℤ) : Type 0 where
  pub hards : All (λ conditions. All (λ condition. IsTrue (holds point condition)) conditions) terms.hards
  pub chances : All (λ (chance : ChanceTerms). (chance.p *ℤ terms.whole) ≤ℤ (chance.q *ℤ weight_where point terms.weights chance.conditions)) terms.chances
  pub goal : IfSome terms.goal (λ (goal : GoalTerms). All (λ term. IsSome (value point term)) goal.terms)

-- the sum over the scenarios of weight times value
abbrev pub expected_value : List ℤ → List ℤ → List Term → Option ℤ
expected_value point [] terms = Some (pos 0)
expected_value point (weight ∷ weights) [] = Some (pos 0)
expected_value point (weight ∷ weights) (term ∷ later) = both_of (λ x y. (weight *ℤ x) +ℤ y) (value point term) (expected_value point weights later)

-- the worse of two values: the greater one when minimizing, the lesser one when maximizing
abbrev pub worse : Direction → ℤ → ℤ → ℤ
worse Minimize x y = int_max x y
worse Maximize x y = int_min x y
worse Nothing x y = x

-- the worst value over the scenarios; there is at least one
abbrev pub worst_value : (ℤ → ℤ → ℤ) → List ℤ → List Term → Option ℤ
worst_value choose point [] = None
worst_value choose point (last ∷ []) = value point last
worst_value choose point (first ∷ second ∷ later) = both_of choose (value point first) (worst_value choose point (second ∷ later))

abbrev pub goal_value : List ℤ → List ℤ → GoalTerms → Option ℤ
goal_value point weights goal = if goal.worst then worst_value (worse goal.direction) point goal.terms else expected_value point weights goal.terms

-- what a point is worth, as a numerator; 0 where there is no objective
abbrev pub worth : ProblemTerms → List ℤ → Option ℤ
worth terms point = option_map_or (goal_value point terms.weights) terms.goal (Some (pos 0))
