-- Totals of weights, one outcome after the other.
use Rattle.std.proofs.Common.{◌≡◌, ◌+◌, ◌*◌, ◌≤◌, ◌^◌, ℕ, ℤ, ◌+ℤ◌, List, unsigned_abs}
use Rattle.std.specs.List.{AllByRecursion}
use Rattle.sopl_ast.specs.Instances.{Outcome}
use Rattle.sopl_ast.specs.Scenarios.{total_of}
use Rattle.unfold_laws.specs.Bounds.{IsBoundedOutcome}

-- what a total has come to, and what is left
pub record IsTotal (outcomes : List Outcome) (so_far : ℤ) (i : ℕ) (left : List Outcome) : Type 0 where
  pub sum : so_far +ℤ total_of left ≡ total_of outcomes
  pub bound : unsigned_abs so_far ≤ 2 ^ 40 * i
  pub rest : AllByRecursion IsBoundedOutcome left
