-- Propagators that look at some cells of a box alone.
use Rattle.std.specs.Prelude.{◌≡◌, ℕ, ◌<◌, ℤ, Bool, true, false, List, [], length, Option, IfSome, All, Contains, slice_index_or}
use Rattle.std.specs.List.Sorted.{IsStrictlyIncreasing}
use Rattle.sopl_base.specs.declared.reason.Reason.{Reason}
use Rattle.box_problem.specs.Box.{Box, Inside, low, high}
use Rattle.box_problem.specs.BoxProblem.{BoxProblem}
use Rattle.box_problem.specs.Rightness.{Quiets}

-- two boxes have as many cells
pub record AreAsLong (b c : Box) : Type 0 where
  pub lows : length b.lows ≡ length c.lows
  pub highs : length b.highs ≡ length c.highs

-- and agree on these cells
pub record AgreeOnCells (cells : List ℕ) (b c : Box) : Type 0 where
  pub as_long : AreAsLong b c
  pub lows : (cell : ℕ) → Contains cells cell → low b cell ≡ low c cell
  pub highs : (cell : ℕ) → Contains cells cell → high b cell ≡ high c cell

-- or on all cells but one
pub record AgreeElsewhere (cell : ℕ) (b c : Box) : Type 0 where
  pub as_long : AreAsLong b c
  pub lows : (other : ℕ) → ¬ other ≡ cell → low b other ≡ low c other
  pub highs : (other : ℕ) → ¬ other ≡ cell → high b other ≡ high c other

-- reasons look at these cells alone: boxes that agree on them are closed alike
abbrev pub LooksAt : BoxProblem → List Reason → List ℕ → Type 0
LooksAt problem reasons cells =
    (b c : Box) (v : Option ℤ) (reason : Reason) → Inside b problem.root → Inside c problem.root → AgreeOnCells cells b c → Contains reasons reason
    → problem.refutes reason b v ≡ problem.refutes reason c v

-- and rest alike
abbrev pub RestsAlike : Type 0
RestsAlike =
    (problem : BoxProblem) (reasons : List Reason) (cells : List ℕ) (v : Option ℤ) (b c : Box) → LooksAt problem reasons cells → Inside b problem.root → Inside c problem.root
    → AgreeOnCells cells b c → Quiets problem reasons v b → Quiets problem reasons v c

-- a propagator fits, its reasons look at these cells alone, and the cells ascend
pub record FitsAndLooksAt (Fits : Type 0) (problem : BoxProblem) (reasons : List Reason) (cells : List ℕ) : Type 0 where
  pub fits : Fits
  pub looks : LooksAt problem reasons cells
  pub ascend : IsStrictlyIncreasing cells

-- nothing more is found for these reasons against the best value that is kept, if one is
abbrev pub HasRested : BoxProblem → List Reason → Option (Option ℤ) → Box → Type 0
HasRested problem reasons rested b = IfSome rested (λ v. Quiets problem reasons v b)

-- each of several members is in step with a box
abbrev pub AllInStep : {P Program : Type 0} → (P → Program → Box → Type 0) → Program → Box → List P → Type 0
AllInStep in_step program b members = All (λ member. in_step member program b) members

-- whether a member waits to be asked
abbrev pub waits_at : List Bool → ℕ → Bool
waits_at waits at = slice_index_or waits at true

-- who does not wait rests
abbrev pub AreCalm : BoxProblem → List (List Reason) → Option ℤ → Box → List Bool → Type 0
AreCalm problem lists v b waits = (at : ℕ) → at < length lists → waits_at waits at ≡ false → Quiets problem (slice_index_or lists at []) v b
