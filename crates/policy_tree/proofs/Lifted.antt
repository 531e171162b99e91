-- From the best point, or from no point, to policies.
use Rattle.std.proofs.Common.{◌≡◌, subst, ℤ, List, Some}
use Rattle.sopl_ast.specs.Instances.{Problem}
use Rattle.sopl_ast.specs.Policies.{Policy}
use Rattle.sopl_ast.specs.Cells.{cells, IsPoint, policy_at}
use Rattle.sopl_ast.specs.Optimal.{Satisfies, numerator, IsOptimal, IsInfeasible}
use Rattle.policy_tree.specs.Best.{NoPointIsBetter, NoPointSatisfies}
use Rattle.policy_tree.proofs.Bijection.{points_are_policies, policies_are_points}

pub optimal_from : (problem : Problem) (values : List ℤ) (value : ℤ) → IsPoint (cells problem) values
    → Satisfies problem (policy_at (cells problem) values) → numerator problem (policy_at (cells problem) values) ≡ Some value
    → NoPointIsBetter problem value
    → IsOptimal problem (policy_at (cells problem) values) value
optimal_from problem values value point satisfies worth best = record {
  policy_of = points_are_policies problem values point;
  satisfies = satisfies;
  worth = worth;
  best = λ other better is sat is_worth.
      let p : (xs : List ℤ) × IsPoint (cells problem) xs × (other ≡ policy_at (cells problem) xs) = policies_are_points problem other is in
      let S : Policy → Type 0 = λ m. Satisfies problem m in
      let W : Policy → Type 0 = λ m. numerator problem m ≡ Some better in
      best p.0 p.1 (subst S p.2 sat) better (subst W p.2 is_worth);
}

pub infeasible_from : (problem : Problem) → NoPointSatisfies problem → IsInfeasible problem
infeasible_from problem no_point = record {
  none = λ policy is sat.
      let p : (xs : List ℤ) × IsPoint (cells problem) xs × (policy ≡ policy_at (cells problem) xs) = policies_are_points problem policy is in
      let S : Policy → Type 0 = λ m. Satisfies problem m in
      no_point p.0 p.1 (subst S p.2 sat);
}
