-- The limits that are tested before anything is built.
use Rattle.std.specs.Prelude.{ℕ, ◌*◌, pos, List, [], ◌∷◌, length, map, Option}
use Rattle.sopl_base.specs.declared.fault.Excess.{Excess}
use Rattle.sopl_base.specs.declared.codes.TheConstants as codes
use Rattle.sopl_ast.specs.Numbers.{or_else}
use Rattle.sopl_ast.specs.Instances.{Stochastic}
use Rattle.sopl_ast.specs.Scenarios.{scenarios, total_weight}
use Rattle.sopl_ast.specs.Limits.{first_above, prefixes, usual_limits}

-- the first limit of the weight of all scenarios, of their number, and of so many instances times scenarios
unfoldable pub early_excess : ℕ → List Stochastic → Option Excess
early_excess instances stochastics =
    or_else (first_above codes.WEIGHT usual_limits.weight (map total_weight (prefixes stochastics)))
    (or_else (first_above codes.SCENARIOS usual_limits.scenarios (map (λ prefix. pos (length (scenarios prefix))) (prefixes stochastics)))
    (first_above codes.COPIES usual_limits.copies (pos (instances * length (scenarios stochastics)) ∷ [])))
