-- What the claim of a log says of a problem's policies.
use Rattle.std.specs.Prelude.{ℤ, Some, None}
use Rattle.sopl_ast.specs.Instances.{Problem}
use Rattle.sopl_ast.specs.Optimal.{IsOptimal, IsInfeasible}
use Rattle.sopl_ast.specs.Policies.{Policy}
use Rattle.log_rows.specs.declared.rows.Footer.{Footer}
use Rattle.log_rows.specs.declared.rows.Footer.TheVariants.{Optimal, Infeasible, Bounded}
use Rattle.compile_laws.specs.Bounds.{IsWorth, IsBoundOf}

-- some policy that satisfies has this value
abbrev pub HasWorth : Problem → ℤ → Type 0
HasWorth problem value = (policy : Policy) × IsWorth problem policy value

-- some policy is optimal with this value; no policy satisfies; or none that satisfies is better than a bound, and one has this value where a value is claimed
abbrev pub HoldsOfPolicies : Problem → Footer → Type 0
HoldsOfPolicies problem (Optimal value) = (policy : Policy) × IsOptimal problem policy value
HoldsOfPolicies problem Infeasible = IsInfeasible problem
HoldsOfPolicies problem (Bounded None bound) = IsBoundOf problem bound
HoldsOfPolicies problem (Bounded (Some value) bound) = HasWorth problem value × IsBoundOf problem bound
