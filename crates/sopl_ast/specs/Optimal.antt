-- Which policies satisfy, what they are worth, and which are optimal.
use Rattle.std.specs.Prelude.{◌≡◌, ℕ, ℤ, pos, ◌+ℤ◌, ◌*ℤ◌, ◌≤ℤ◌, Bool, false, List, [], ◌∷◌, map, filter, All, Option, Some, None, IsSome, IfSome, IsTrue, slice_get, if◌then◌else◌}
use Rattle.std.specs.Option.{option_map_or}
use Rattle.std.specs.Int.{int_min, int_max}
use Rattle.sopl_base.specs.declared.direction.Direction.{Direction}
use Rattle.sopl_base.specs.declared.direction.Direction.TheVariants.{Minimize, Maximize, Nothing}
use Rattle.sopl_base.specs.Better.{IsBetter}
use Rattle.sopl_ast.specs.Known.{Binding}
use Rattle.sopl_ast.specs.Instances.{Hard, Chance, Objective, Problem}
use Rattle.sopl_ast.specs.Numbers.{both_of, total}
use Rattle.sopl_ast.specs.Scenarios.{Scenario, scenarios, total_weight}
use Rattle.sopl_ast.specs.Policies.{Policy, IsPolicy}
use Rattle.sopl_ast.specs.Meanings.{Place, meaning}

-- where the problem's expressions are evaluated, under a policy and in a scenario
abbrev pub place_in : Problem → Policy → List Binding → Scenario → Place
place_in problem policy bound scenario =
    record {
      known = record problem.known { bound = bound };
      decisions = problem.decisions;
      stochastics = problem.stochastics;
      scenario = scenario.values;
      policy = policy;
    }

-- whether the condition with this number is true in a scenario
abbrev pub holds : Problem → Policy → ℕ → List Binding → Scenario → Bool
holds problem policy text bound scenario =
    option_map_or (λ condition. (meaning (place_in problem policy bound scenario) condition).truth)
    (slice_get problem.conditions text) false

-- the weight of the scenarios in which a chance constraint's condition is true
abbrev pub weight_of : Problem → Policy → Chance → ℤ
weight_of problem policy chance =
    total (map (λ (s : Scenario). s.weight) (filter (holds problem policy chance.text chance.bound) (scenarios problem.stochastics)))

-- the objective's value in a scenario
abbrev pub value_in : Problem → Policy → Objective → Scenario → Option ℤ
value_in problem policy objective scenario = (meaning (place_in problem policy [] scenario) objective.value).value

-- a policy satisfies: each hard constraint is true in every scenario, each chance constraint is true in scenarios that weigh at
-- least p / q of all, and the objective, where there is one, is defined in every scenario
pub record Satisfies (problem : Problem) (policy : Policy) : Type 0 where
  pub hards : All (λ (h : Hard). All (λ s. IsTrue (holds problem policy h.text h.bound s)) (scenarios problem.stochastics)) problem.hards
  pub chances : All (λ (c : Chance). (c.p *ℤ total_weight problem.stochastics) ≤ℤ (c.q *ℤ weight_of problem policy c)) problem.chances
  pub objective : IfSome problem.objective
      (λ objective. All (λ s. IsSome (value_in problem policy objective s)) (scenarios problem.stochastics))

-- the sum over the scenarios of weight times value
abbrev pub expected : (Scenario → Option ℤ) → List Scenario → Option ℤ
expected value [] = Some (pos 0)
expected value (first ∷ later) = both_of (λ x y. (first.weight *ℤ x) +ℤ y) (value first) (expected value later)

-- the least or the greatest value over the scenarios; there is at least one
abbrev pub worst : (ℤ → ℤ → ℤ) → (Scenario → Option ℤ) → List Scenario → Option ℤ
worst choose value [] = None
worst choose value (last ∷ []) = value last
worst choose value (first ∷ second ∷ later) = both_of choose (value first) (worst choose value (second ∷ later))

-- the worse of two values: the greater one when minimizing, the lesser one when maximizing
abbrev pub worse : Direction → ℤ → ℤ → ℤ
worse Minimize x y = int_max x y
worse Maximize x y = int_min x y
worse Nothing x y = x

-- the numerator of an objective
abbrev pub objective_value : Problem → Policy → Objective → Option ℤ
objective_value problem policy objective =
    if objective.worst
    then worst (worse objective.direction) (value_in problem policy objective) (scenarios problem.stochastics)
    else expected (value_in problem policy objective) (scenarios problem.stochastics)

-- what a policy is worth, as the numerator over `denominator`; 0 where there is no objective
abbrev pub numerator : Problem → Policy → Option ℤ
numerator problem policy = option_map_or (objective_value problem policy) problem.objective (Some (pos 0))

-- the one denominator of all values: the weight of all scenarios for an expected objective, else 1
abbrev pub denominator : Problem → ℤ
denominator problem =
    option_map_or (λ (o : Objective). if o.worst then pos 1 else total_weight problem.stochastics) problem.objective (pos 1)

-- which values are better
abbrev pub direction_of : Problem → Direction
direction_of problem = option_map_or (λ (o : Objective). o.direction) problem.objective Nothing

-- a policy of this value satisfies, and no policy that satisfies has a better value
pub record IsOptimal (problem : Problem) (policy : Policy) (value : ℤ) : Type 0 where
  pub policy_of : IsPolicy problem policy
  pub satisfies : Satisfies problem policy
  pub worth : numerator problem policy ≡ Some value
  pub best : (other : Policy) (better : ℤ) → IsPolicy problem other → Satisfies problem other
      → numerator problem other ≡ Some better → ¬ IsBetter (direction_of problem) better value

-- no policy satisfies
pub record IsInfeasible (problem : Problem) : Type 0 where
  pub none : (policy : Policy) → IsPolicy problem policy → ¬ Satisfies problem policy
