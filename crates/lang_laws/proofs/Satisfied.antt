-- A policy that satisfies is worth something.
use Rattle.std.proofs.Common.{suc, ◌<◌, length, ℤ, pos, ◌+ℤ◌, ◌*ℤ◌, Bool, true, false, List, [], ◌∷◌, All, Option, Some, None, IsSome, IfSome, if◌then◌else◌, arith, refl}
use Rattle.std.specs.Option.{option_map_or}
use Rattle.sopl_ast.specs.Numbers.{both_of}
use Rattle.sopl_ast.specs.Instances.{Objective, Problem}
use Rattle.sopl_ast.specs.Scenarios.{Scenario, scenarios}
use Rattle.sopl_ast.specs.Policies.{Policy}
use Rattle.sopl_ast.specs.Optimal.{value_in, expected, worst, worse, objective_value}
use Rattle.lang_laws.specs.Laws.{SatisfiedIsWorth}
use Rattle.lang_laws.proofs.ScenarioLaws.{some_scenario}

both_some : {A B C : Type 0} (make : A → B → C) (a : Option A) (b : Option B) → IsSome a → IsSome b → IsSome (both_of make a b)
both_some make None b one two = one
both_some make (Some x) None one two = two
both_some make (Some x) (Some y) one two = refl

expected_some : (f : Scenario → Option ℤ) (ss : List Scenario) → All (λ s. IsSome (f s)) ss → IsSome (expected f ss)
expected_some f [] all = refl
expected_some f (s ∷ ss) all =
    both_some (λ x y. (s.weight *ℤ x) +ℤ y) (f s) (expected f ss) (all 0 s (omega arith))
    (expected_some f ss (λ k d below. all (suc k) d (omega arith)))

worst_some : (choose : ℤ → ℤ → ℤ) (f : Scenario → Option ℤ) (ss : List Scenario) → 0 < length ss → All (λ s. IsSome (f s)) ss → IsSome (worst choose f ss)
worst_some choose f [] some all = absurd (omega arith)
worst_some choose f (s ∷ []) some all = all 0 s (omega arith)
worst_some choose f (s ∷ t ∷ ss) some all =
    both_some choose (f s) (worst choose f (t ∷ ss)) (all 0 s (omega arith))
    (worst_some choose f (t ∷ ss) (omega arith) (λ k d below. all (suc k) d (omega arith)))

objective_some : (problem : Problem) (policy : Policy) (objective : Objective) → 0 < length (scenarios problem.stochastics)
    → All (λ s. IsSome (value_in problem policy objective s)) (scenarios problem.stochastics) → IsSome (objective_value problem policy objective)
objective_some problem policy objective some all = by_kind objective.worst
  where
    by_kind : (b : Bool) → IsSome (if b
        then worst (worse objective.direction) (value_in problem policy objective) (scenarios problem.stochastics)
        else expected (value_in problem policy objective) (scenarios problem.stochastics))
    by_kind true = worst_some (worse objective.direction) (value_in problem policy objective) (scenarios problem.stochastics) some all
    by_kind false = expected_some (value_in problem policy objective) (scenarios problem.stochastics) all

pub satisfied_is_worth : SatisfiedIsWorth
satisfied_is_worth problem policy alive satisfies = by_objective problem.objective satisfies.objective
  where
    by_objective : (o : Option Objective)
        → IfSome o (λ objective. All (λ s. IsSome (value_in problem policy objective s)) (scenarios problem.stochastics))
        → IsSome (option_map_or (objective_value problem policy) o (Some (pos 0)))
    by_objective None all = refl
    by_objective (Some o) all = objective_some problem policy o (some_scenario problem.stochastics alive) all
