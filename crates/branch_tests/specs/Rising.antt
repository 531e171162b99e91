-- A small problem for tests: each of several cells is to be at most the next one, and the first one as great as possible.
use Rattle.std.specs.Prelude.{◌≡◌, ℕ, zero, suc, ◌+◌, ◌^◌, ◌<◌, ◌≤◌, nat_lt, ℤ, pos, int_le, int_lt, Bool, true, false, ◌&&◌, List, [], ◌∷◌, All, Option, Some, None, length, slice_index_or}
use Rattle.sopl_base.specs.declared.direction.Direction.TheVariants.{Maximize}
use Rattle.sopl_base.specs.declared.interval.Interval.{Interval}
use Rattle.sopl_base.specs.declared.reason.Reason.{Reason}
use Rattle.sopl_base.specs.declared.reason.Reason.TheVariants.{Hard, Chance, Undefined, Bound}
use Rattle.box_problem.specs.Box.{Box, box_of, low, high}
use Rattle.box_problem.specs.BoxProblem.{BoxProblem}
use Rattle.box_problem.specs.Near.{IsNear, IsNearBox}
use Rattle.prop_core.specs.Watches.{FitsAndLooksAt, HasRested}

-- a number is no greater than one that is reached
abbrev pub reached : ℤ → Option ℤ → Bool
reached x None = false
reached x (Some w) = int_le x w

-- one of so many cells that have a next one is above that one all over a box
abbrev pub falls : ℕ → Box → ℕ → Bool
falls pairs b cell = nat_lt cell pairs && int_lt (high b (cell + 1)) (low b cell)

-- a cell is above the next one, or the greatest value of the first one is no better than one that is reached
abbrev pub is_closed : ℕ → Reason → Box → Option ℤ → Bool
is_closed pairs (Hard cell zero) b v = falls pairs b cell
is_closed pairs (Hard cell (suc scenario)) b v = false
is_closed pairs (Chance instance) b v = false
is_closed pairs (Undefined scenario) b v = false
is_closed pairs Bound b v = reached (high b 0) v

-- each number is at most the next one
abbrev pub rise_from : ℤ → List ℤ → Bool
rise_from x [] = true
rise_from x (y ∷ ys) = int_le x y && rise_from y ys

abbrev pub rise : List ℤ → Bool
rise [] = true
rise (x ∷ xs) = rise_from x xs

-- the reasons: one for each cell that has a next one, and the bound
abbrev pub rising_reasons : ℕ → List Reason
rising_reasons zero = Bound ∷ []
rising_reasons (suc n) = Hard n 0 ∷ rising_reasons n

abbrev pub rising : ℕ → Box → BoxProblem
rising pairs root = record {
  root = root;
  reasons = rising_reasons pairs;
  refutes = is_closed pairs;
  satisfies = rise;
  value = λ point. slice_index_or point 0 (pos 0);
  direction = Maximize;
  end = λ b. high b 0;
}

abbrev pub problem_of : List Interval → ℕ → BoxProblem
problem_of intervals pairs = rising pairs (box_of intervals)

-- the ends of an interval are near, and those of several
pub record IsNearInterval (i : Interval) : Type 0 where
  pub low : IsNear i.lo
  pub high : IsNear i.hi

abbrev pub AreNear : List Interval → Type 0
AreNear intervals = All IsNearInterval intervals

-- one cell more than have a next one, few of them, with near ends
pub record IsChain (intervals : List Interval) (pairs : ℕ) : Type 0 where
  pub many : length intervals ≡ pairs + 1
  pub few : length intervals ≤ 16
  pub near : IsNearBox (box_of intervals)

-- a cell has a next one
pub record IsPair (intervals : List Interval) (pairs first : ℕ) : Type 0 where
  pub below : first < pairs
  pub exists : first + 1 < length intervals
  pub small : first + 1 < 2 ^ 32

-- a propagator is of such a cell, or of the bound
abbrev pub FitsFor : List Interval → ℕ → Option ℕ → Type 0
FitsFor intervals pairs (Some first) = IsPair intervals pairs first
FitsFor intervals pairs None = 0 < length intervals

abbrev pub reasons_for : Option ℕ → List Reason
reasons_for (Some first) = Hard first 0 ∷ []
reasons_for None = Bound ∷ []

-- it looks at some cells alone, and has rested on a box against the best value that is kept, if one is
abbrev pub LooksAtRise : List Interval → ℕ → Option ℕ → List ℕ → Type 0
LooksAtRise intervals pairs pair cells =
    FitsAndLooksAt (FitsFor intervals pairs pair) (problem_of intervals pairs) (reasons_for pair) cells

abbrev pub RestsAtRise : List Interval → ℕ → Option ℕ → Option (Option ℤ) → Box → Type 0
RestsAtRise intervals pairs pair rested b = HasRested (problem_of intervals pairs) (reasons_for pair) rested b
