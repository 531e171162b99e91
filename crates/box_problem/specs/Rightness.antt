-- Which steps are right, and when no step is left to make.
use Rattle.std.specs.Prelude.{◌≡◌, ℕ, ◌<◌, ℤ, true, false, List, [], ◌∷◌, ◌++◌, length, Option, Contains}
use Rattle.sopl_base.specs.declared.reason.Reason.{Reason}
use Rattle.sopl_base.specs.declared.reason.Step.{Step}
use Rattle.box_problem.specs.Box.{Box, low, high, with_low, with_high}
use Rattle.box_problem.specs.Steps.{IsCut, after_step, removed, after_steps}
use Rattle.box_problem.specs.BoxProblem.{BoxProblem}

-- a right step cuts a cell's interval, and its reason closes the part that it removes
pub record IsRight (problem : BoxProblem) (v : Option ℤ) (b : Box) (s : Step) : Type 0 where
  pub cut : IsCut b s.cell s.side s.k
  pub refuted : problem.refutes s.reason (removed b s) v ≡ true

-- each step is right on the box that the steps before it leave
abbrev pub AllRight : BoxProblem → Option ℤ → Box → List Step → Type 0
AllRight problem v b [] = Unit {0}
AllRight problem v b (s ∷ steps) = IsRight problem v b s × AllRight problem v (after_step b s) steps

-- right steps were added to a list of steps, and they lead from the one box to the other
pub record Appended (problem : BoxProblem) (v : Option ℤ) (start : Box) (before after : List Step) (stop : Box) : Type 0 where
  pub more : List Step
  pub added : after ≡ before ++ more
  pub right : AllRight problem v start more
  pub leads : stop ≡ after_steps start more

-- none of these reasons closes the box, or the box with one cell at its lower or at its upper end
pub record Quiets (problem : BoxProblem) (reasons : List Reason) (v : Option ℤ) (b : Box) : Type 0 where
  pub whole : (reason : Reason) → Contains reasons reason → problem.refutes reason b v ≡ false
  pub at_low : (reason : Reason) (cell : ℕ) → Contains reasons reason → cell < length b.lows
      → problem.refutes reason (with_high b cell (low b cell)) v ≡ false
  pub at_high : (reason : Reason) (cell : ℕ) → Contains reasons reason → cell < length b.lows
      → problem.refutes reason (with_low b cell (high b cell)) v ≡ false

-- a box is consistent where no reason of the problem closes it or one of its ends
abbrev pub IsConsistent : BoxProblem → Option ℤ → Box → Type 0
IsConsistent problem v b = Quiets problem problem.reasons v b
