-- The limits of what an unfolded text asks for: the weight of all scenarios, their number, instances times scenarios, the bits of all decisions (each
-- decided once for each history of its stage), and term nodes.
use Rattle.std.specs.Prelude.{ℕ, ◌+◌, ◌-◌, ◌*◌, ◌^◌, ℤ, pos, int_le, List, [], ◌∷◌, length, map, Option, Some, None, if◌then◌else◌}
use Rattle.std.specs.List.{sum_by}
use Rattle.std.specs.Int.{int_min, int_gap}
use Rattle.sopl_base.specs.declared.fault.Excess.{Excess}
use Rattle.sopl_base.specs.declared.codes.TheConstants as codes
use Rattle.sopl_base.specs.declared.limits.TheConstants as largest
use Rattle.sopl_ast.specs.Numbers.{or_else, binary_digits, natural}
use Rattle.sopl_ast.specs.UnfoldEvents.{excess}
use Rattle.sopl_ast.specs.Instances.{Decision, Stochastic, Problem}
use Rattle.sopl_ast.specs.Scenarios.{scenarios, total_weight}
use Rattle.sopl_ast.specs.Histories.{histories}
use Rattle.sopl_ast.specs.TermNodes.{text_nodes}

-- the greatest numbers that are allowed: the weight of all scenarios, their number, instances times scenarios, bits, and term nodes
pub record Limits : Type 0 where
  pub weight : ℕ
  pub scenarios : ℕ
  pub copies : ℕ
  pub bits : ℕ
  pub nodes : ℕ

-- the limits of the language
abbrev pub usual_limits : Limits
usual_limits = record { weight = natural largest.WEIGHT; scenarios = natural largest.SCENARIOS; copies = natural largest.COPIES; bits = natural largest.BITS; nodes = natural largest.TERM_NODES }

-- the first of these numbers that passes a limit; a number past 2^127 - 1 is given as that
abbrev pub first_above : ℕ → ℕ → List ℤ → Option Excess
first_above code limit [] = None
first_above code limit (n ∷ later) =
    if int_le n (pos limit) then first_above code limit later else Some (excess code (int_min n (pos (2 ^ 127 - 1))) (pos limit))

-- the prefixes of a list that are not empty, from the shortest to the whole
abbrev pub prefixes : {A : Type 0} → List A → List (List A)
prefixes [] = []
prefixes (x ∷ xs) = (x ∷ []) ∷ map (λ prefix. x ∷ prefix) (prefixes xs)

-- 201: the weight of all scenarios of the stochastic variables up to one of them
abbrev pub weight_excess : Limits → Problem → Option Excess
weight_excess limits problem = first_above codes.WEIGHT limits.weight (map total_weight (prefixes problem.stochastics))

-- 202: how many scenarios the stochastic variables up to one of them have
abbrev pub scenario_excess : Limits → Problem → Option Excess
scenario_excess limits problem =
    first_above codes.SCENARIOS limits.scenarios (map (λ prefix. pos (length (scenarios prefix))) (prefixes problem.stochastics))

-- how many instances there are: decisions, stochastic variables and constraints
abbrev pub instance_count : Problem → ℕ
instance_count problem = length problem.decisions + (length problem.stochastics + (length problem.hards + length problem.chances))

-- 209: instances times scenarios
abbrev pub copy_excess : Limits → Problem → Option Excess
copy_excess limits problem =
    first_above codes.COPIES limits.copies (pos (instance_count problem * length (scenarios problem.stochastics)) ∷ [])

-- the bits of a decision, which is decided once for each history of its stage: as many bits in each as its greatest number less its least has binary
-- digits
abbrev pub bits_of : List Stochastic → Decision → ℕ
bits_of stochastics d = binary_digits (int_gap d.lo d.hi) * length (histories d.stage stochastics)

-- 204: the bits of all decisions, one value for each history
abbrev pub bit_excess : Limits → Problem → Option Excess
bit_excess limits problem = first_above codes.BITS limits.bits (pos (sum_by (bits_of problem.stochastics) problem.decisions) ∷ [])

-- 206: the term nodes, which are asked for from the compiler on, behind the sizes
abbrev pub node_excess : Limits → Problem → Option Excess
node_excess limits problem = first_above codes.TERM_NODES limits.nodes (pos (text_nodes problem) ∷ [])

-- the first limit on scenarios and decisions that is passed, in the order 201, 202, 209, 204
abbrev pub size_excess : Limits → Problem → Option Excess
size_excess limits problem =
    or_else (weight_excess limits problem)
    (or_else (scenario_excess limits problem) (or_else (copy_excess limits problem) (bit_excess limits problem)))

-- the first limit that is passed, where the term nodes come last
abbrev pub first_passed : Limits → Problem → Option Excess
first_passed limits problem = or_else (size_excess limits problem) (node_excess limits problem)
