-- What a policy is worth, and what no policy is better than.
use Rattle.std.specs.Prelude.{◌≡◌, ℤ, Some}
use Rattle.sopl_base.specs.Better.{IsBetter}
use Rattle.sopl_ast.specs.Instances.{Problem}
use Rattle.sopl_ast.specs.Optimal.{Satisfies, numerator, direction_of}
use Rattle.sopl_ast.specs.Policies.{Policy, IsPolicy}

-- a policy of the problem satisfies and has this value
pub record IsWorth (problem : Problem) (policy : Policy) (value : ℤ) : Type 0 where
  pub policy_of : IsPolicy problem policy
  pub satisfies : Satisfies problem policy
  pub worth : numerator problem policy ≡ Some value

-- no policy that satisfies is better than the bound
pub record IsBoundOf (problem : Problem) (bound : ℤ) : Type 0 where
  pub none_better : (policy : Policy) (value : ℤ) → IsWorth problem policy value → ¬ IsBetter (direction_of problem) value bound
