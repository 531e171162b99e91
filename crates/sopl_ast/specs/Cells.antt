-- The cells of a problem, its boxes and its points: how a search sees the policies.
use Rattle.std.specs.Prelude.{ℕ, ℤ, ◌≤ℤ◌, List, [], ◌∷◌, map}
use Rattle.std.specs.List.{flat_map, enumerate_from, zip}
use Rattle.std.specs.FinMap.{from_entries}
use Rattle.sopl_ast.specs.Instances.{Decision, Stochastic, Problem}
use Rattle.sopl_ast.specs.Histories.{histories}
use Rattle.sopl_ast.specs.Policies.{Key, Policy}

-- a cell: the key that it stands for, and the ends of the decision's domain
pub record Cell : Type 0 where
  pub key : Key
  pub lo : ℤ
  pub hi : ℤ

-- the cells of a decision, one for each history of its stage
abbrev pub cells_of : List Stochastic → ℕ × Decision → List Cell
cells_of stochastics (number, d) =
    map (λ seen. record { key = (number, seen); lo = d.lo; hi = d.hi }) (histories d.stage stochastics)

-- the cells of a problem, by decision and then by the number of the history
abbrev pub cells : Problem → List Cell
cells problem = flat_map (cells_of problem.stochastics) (enumerate_from 0 problem.decisions)

-- a point has one value for each cell, inside the cell's domain
abbrev pub IsPoint : List Cell → List ℤ → Type 0
IsPoint [] [] = Unit {0}
IsPoint [] (value ∷ values) = ⊥
IsPoint (cell ∷ cells) [] = ⊥
IsPoint (cell ∷ cells) (value ∷ values) = (cell.lo ≤ℤ value) × (value ≤ℤ cell.hi) × IsPoint cells values

-- the policy of a point
abbrev pub policy_at : List Cell → List ℤ → Policy
policy_at cells values = from_entries (zip (map (λ (cell : Cell). cell.key) cells) values)
