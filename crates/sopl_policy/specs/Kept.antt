-- A policy as it is kept, and the finite map that it is.
use Rattle.std.specs.Prelude.{◌≡◌, ℕ, suc, ◌+◌, ◌<◌, ℤ, pos, List, [], ◌∷◌, length, get_or}
use Rattle.sopl_ast.specs.Cells.{IsPoint, cells, policy_at}
use Rattle.sopl_ast.specs.Histories.{histories}
use Rattle.sopl_ast.specs.Instances.{Decision, Problem, Stochastic}
use Rattle.sopl_ast.specs.Policies.{Policy}

-- the values of all cells, and the number of the first cell of each decision, with the number of all cells behind them
pub record PolicyCells : Type 0 where
  pub firsts : List ℕ
  pub values : List ℤ

-- the number of the first cell of a decision
abbrev pub first_cell : PolicyCells → ℕ → ℕ
first_cell kept decision = get_or kept.firsts decision 0

-- the value of a decision at the history with this number
abbrev pub value_kept : PolicyCells → ℕ → ℕ → ℤ
value_kept kept decision history = get_or kept.values (first_cell kept decision + history) (pos 0)

-- there is such a decision, and it has a cell for such a history
pub record HasHistory (kept : PolicyCells) (decision history : ℕ) : Type 0 where
  pub decided : suc decision < length kept.firsts
  pub seen : first_cell kept decision + history < first_cell kept (suc decision)

-- each decision has one cell for each history of its stage, from this cell on
abbrev pub firsts_from : List Stochastic → ℕ → List Decision → List ℕ
firsts_from stochastics first [] = first ∷ []
firsts_from stochastics first (d ∷ later) = first ∷ firsts_from stochastics (first + length (histories d.stage stochastics)) later

-- what is kept is a policy of a problem: a value for each cell, within its domain
pub record IsPolicyFor (problem : Problem) (kept : PolicyCells) : Type 0 where
  pub firsts : kept.firsts ≡ firsts_from problem.stochastics 0 problem.decisions
  pub point : IsPoint (cells problem) kept.values

-- the policy: a finite map from decisions and histories to values
abbrev pub policy_map : Problem → PolicyCells → Policy
policy_map problem kept = policy_at (cells problem) kept.values
