-- Pairs of the program, as outcomes.
use Rattle.std.specs.Prelude.{ℤ}
use Rattle.sopl_ast.specs.Instances.{Outcome}

-- a value and its weight
abbrev pub outcome_in : ℤ × ℤ → Outcome
outcome_in pair = record { value = pair.0; weight = pair.1 }
