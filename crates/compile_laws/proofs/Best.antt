-- From the best point of a problem in terms to an optimal policy.
use Rattle.std.proofs.Common.{◌≡◌, ◌∙◌, refl, sym, subst, ◌≤◌, pos, [], length, Option, Some, None, IfSome, option_map, if◌then◌else◌}
use Rattle.std.proofs.lemmas.List.{length-map}
use Rattle.std.specs.Option.{option_map_or}
use Rattle.sopl_base.specs.declared.direction.Direction.TheVariants.{Nothing}
use Rattle.sopl_base.specs.Better.{IsBetter}
use Rattle.sopl_ast.specs.Instances.{Objective, Problem}
use Rattle.sopl_ast.specs.Scenarios.{Scenario, scenarios, total_weight}
use Rattle.policy_tree.proofs.Lifted.{optimal_from, infeasible_from}
use Rattle.compile_laws.specs.Instances.{instance}
use Rattle.term_problem.specs.Problems.{GoalTerms}
use Rattle.term_problem.specs.Points.{worth}
use Rattle.term_problem.proofs.Worth.{worth_there, there_is}
use Rattle.compile_laws.specs.Whole.{place_at, goal_terms, problem_terms}
use Rattle.compile_laws.specs.WholeLaws.{MeansAt, ValuesAreSame, SatisfyingHasValue, BestIsOptimal, NoneIsInfeasible}
use Rattle.compile_laws.proofs.Whole.{problems_mean}

-- The denominator and the direction.

same_denominator : (problem : Problem) (objective : Option Objective)
    → option_map_or (λ (goal : GoalTerms). if goal.worst then pos 1 else total_weight problem.stochastics) (option_map (goal_terms problem) objective) (pos 1)
    ≡ option_map_or (λ (o : Objective). if o.worst then pos 1 else total_weight problem.stochastics) objective (pos 1)
same_denominator problem None = refl
same_denominator problem (Some objective) = refl

same_direction : (problem : Problem) (objective : Option Objective)
    → option_map_or (λ (goal : GoalTerms). goal.direction) (option_map (goal_terms problem) objective) Nothing ≡ option_map_or (λ (o : Objective). o.direction) objective Nothing
same_direction problem None = refl
same_direction problem (Some objective) = refl

pub values_are_same : ValuesAreSame
values_are_same problem = record { denominator = same_denominator problem problem.objective; direction = same_direction problem problem.objective }

-- Values.

-- an objective has a term in each scenario
some_term : (problem : Problem) → 1 ≤ length (scenarios problem.stochastics) → (objective : Option Objective)
    → IfSome (option_map (goal_terms problem) objective) (λ (goal : GoalTerms). 1 ≤ length goal.terms)
some_term problem some None = tt
some_term problem some (Some objective) =
    subst (λ n. 1 ≤ n) (sym (length-map (scenarios problem.stochastics) (λ (s : Scenario). (instance (place_at problem [] s) objective.value).term))) some

pub satisfying_has_value : SatisfyingHasValue
satisfying_has_value problem some point all =
    there_is (worth (problem_terms problem) point) (worth_there point (problem_terms problem).weights (problem_terms problem).goal (some_term problem some problem.objective) all.goal)

-- Points and policies.

pub best_is_optimal : BestIsOptimal
best_is_optimal problem arrays point v best =
    optimal_from problem point v best.inside (here.satisfies.1 best.satisfies) (here.worth ∙ best.valued)
    (λ other is satisfies better valued.
    let there = problems_mean problem arrays other is in
    λ wins.
    best.best other better is (there.satisfies.0 satisfies) (sym there.worth ∙ valued)
    (subst (λ direction. IsBetter direction better v) (sym (values_are_same problem).direction) wins))
  where
    here : MeansAt problem point
    here = problems_mean problem arrays point best.inside

pub none_is_infeasible : NoneIsInfeasible
none_is_infeasible problem arrays none =
    infeasible_from problem (λ point is satisfies. none point is ((problems_mean problem arrays point is).satisfies.0 satisfies))
