-- What the rows of a search say: each step and each end is right against the best value of its moment.
use Rattle.std.specs.Prelude.{◌≡◌, ℕ, zero, suc, ◌+◌, ◌<◌, ◌≤◌, ℤ, true, List, [], ◌++◌, length, map, Option, None, Some, AllPairs, Contains}
use Rattle.sopl_base.specs.declared.reason.Side.TheVariants.{Le}
use Rattle.log_rows.specs.declared.rows.Parent.{Parent}
use Rattle.log_rows.specs.declared.rows.Cut.{Cut}
use Rattle.log_rows.specs.declared.rows.Row.{Row}
use Rattle.log_rows.specs.declared.rows.EndLine.{EndLine}
use Rattle.log_rows.specs.declared.rows.EndLine.TheVariants.{Refuted, Split, Point, Unfinished}
use Rattle.box_problem.specs.Box.{Box, IsPoint}
use Rattle.box_problem.specs.Steps.{IsCut}
use Rattle.box_problem.specs.BoxProblem.{BoxProblem, Beats}
use Rattle.box_problem.specs.Rightness.{AllRight, IsConsistent}
use Rattle.log_rows.specs.Rows.{row_at, final_of, start_of, box_at, depth_of, depth_at, Hangs}

-- a box is split only where it is consistent
pub record MadeSplit (problem : BoxProblem) (v : Option ℤ) (b : Box) (at : Cut) : Type 0 where
  pub cut : IsCut b at.cell Le at.k
  pub consistent : IsConsistent problem v b

-- a point is found only where it beats what was found before
pub record MadePoint (problem : BoxProblem) (v : Option ℤ) (b : Box) : Type 0 where
  pub one : IsPoint b
  pub beats : Beats problem v b.lows

abbrev pub MadeEnd : BoxProblem → Option ℤ → Box → EndLine → Type 0
MadeEnd problem v b (Refuted reason) = problem.refutes reason b v ≡ true
MadeEnd problem v b (Split cut) = MadeSplit problem v b cut
MadeEnd problem v b Point = MadePoint problem v b
MadeEnd problem v b Unfinished = Unit {0}

-- a row's steps lead from the box with which its node begins, and its end is right for the box with which it ends
pub record Made (problem : BoxProblem) (v : Option ℤ) (start : Box) (row : Row) (final : Box) : Type 0 where
  pub steps : AllRight problem v start row.steps
  pub end : MadeEnd problem v final row.end

-- the best value behind a node, and behind the first i nodes
abbrev pub best_after : BoxProblem → Option ℤ → EndLine → Box → Option ℤ
best_after problem v (Refuted reason) final = v
best_after problem v (Split cut) final = v
best_after problem v Point final = Some (problem.value final.lows)
best_after problem v Unfinished final = v

abbrev pub best_at : BoxProblem → List Row → ℕ → Option ℤ
best_at problem rows zero = None
best_at problem rows (suc i) = best_after problem (best_at problem rows i) (row_at rows i).end (final_of problem.root rows i)

-- a node that is open: the split that it is a part of, and the box with which it begins
pub record Pending : Type 0 where
  pub parent : Option Parent
  pub at : Box

-- the open node that the rows give a parent
abbrev pub pending_at : Box → List Row → Option Parent → Pending
pending_at root rows parent = record { parent = parent; at = box_at root rows parent }

-- the rows are those of a search from the root with no value, `opens` are the nodes that it has not finished, each once, and
-- `best` is the best value that it found
pub record Logs (problem : BoxProblem) (rows : List Row) (opens : List Pending) (best : Option ℤ) : Type 0 where
  pub hangs : (i : ℕ) → i < length rows → Hangs rows i (row_at rows i).parent
  pub made : (i : ℕ) → i < length rows
      → Made problem (best_at problem rows i) (start_of problem.root rows i) (row_at rows i) (final_of problem.root rows i)
  pub best_is : best ≡ best_at problem rows (length rows)
  pub placed : (x : Pending) → Contains opens x → Hangs rows (length rows) x.parent × (x ≡ pending_at problem.root rows x.parent)
  pub listed : (parent : Option Parent) → Hangs rows (length rows) parent → Contains opens (pending_at problem.root rows parent)
  pub distinct : AllPairs (λ x y. ¬ x ≡ y) opens

-- the node of each row is finished
abbrev pub IsFinished : EndLine → Type 0
IsFinished (Refuted reason) = Unit {0}
IsFinished (Split cut) = Unit {0}
IsFinished Point = Unit {0}
IsFinished Unfinished = ⊥

abbrev pub AreFinished : List Row → Type 0
AreFinished rows = (i : ℕ) → i < length rows → IsFinished (row_at rows i).end

-- no node lies deeper than `most`, nor will one below an open node, as long as each split takes at least 1 of the measure
pub record AreShallow (measure : Box → ℕ) (most : ℕ) (rows : List Row) (opens : List Pending) : Type 0 where
  pub rows_are : (i : ℕ) → i < length rows → depth_of rows i ≤ most
  pub opens_are : (x : Pending) → Contains opens x → depth_at rows x.parent + measure x.at ≤ most

-- the row of an open node, and the rows with those of the open nodes behind them
abbrev pub open_row : Pending → Row
open_row x = record { parent = x.parent; steps = []; end = Unfinished }

abbrev pub with_open : List Row → List Pending → List Row
with_open rows opens = rows ++ map open_row opens
