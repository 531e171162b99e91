-- A problem over the points of a box, as a search sees it: which boxes it may close, and which points it looks for.
use Rattle.std.specs.Prelude.{◌≡◌, ℤ, Bool, true, false, List, Option, Some, None, IfSome, Contains}
use Rattle.sopl_base.specs.declared.direction.Direction.{Direction}
use Rattle.sopl_base.specs.declared.reason.Reason.{Reason}
use Rattle.sopl_base.specs.declared.reason.Reason.TheVariants.{Bound}
use Rattle.sopl_base.specs.Better.{IsBetter}
use Rattle.box_problem.specs.Box.{Box, IsBox, Inside, InBox, IsPoint}

pub record BoxProblem : Type 0 where
  -- the box of all points
  pub root : Box
  -- the reasons that may close a box
  pub reasons : List Reason
  -- whether a reason closes a box against a value that is known to be reached, or against none
  pub refutes : Reason → Box → Option ℤ → Bool
  -- whether a point satisfies
  pub satisfies : List ℤ → Bool
  -- the objective's value at a point that satisfies, and which values are better
  pub value : List ℤ → ℤ
  pub direction : Direction
  -- the better end of the objective's interval over a box
  pub end : Box → ℤ

-- the point satisfies, and its value is better than v where there is one
pub record Beats (problem : BoxProblem) (v : Option ℤ) (point : List ℤ) : Type 0 where
  pub satisfies : problem.satisfies point ≡ true
  pub better : IfSome v (λ w. IsBetter problem.direction (problem.value point) w)

-- v is as good as the value w, or better; no value is as good as some value
abbrev pub Follows : Direction → Option ℤ → Option ℤ → Type 0
Follows direction v None = Unit {0}
Follows direction None (Some w) = ⊥
Follows direction (Some x) (Some w) = ¬ IsBetter direction w x

-- what the search asks of a problem, on the root box and on each box inside it
pub record Lawful (problem : BoxProblem) : Type 0 where
  -- the root is a box
  pub root : IsBox problem.root
  -- a box that is closed has no point that beats v
  pub sound : (reason : Reason) (b : Box) (v : Option ℤ) (point : List ℤ) → Inside b problem.root
      → problem.refutes reason b v ≡ true → InBox b point → ¬ Beats problem v point
  -- a box of one point that no reason closes has a point that beats v
  pub exact : (b : Box) (v : Option ℤ) → Inside b problem.root → IsPoint b
      → ((reason : Reason) → Contains problem.reasons reason → problem.refutes reason b v ≡ false) → Beats problem v b.lows
  -- no point of a box that satisfies is better than the better end over it
  pub end_bounds : (b : Box) (point : List ℤ) → Inside b problem.root → InBox b point
      → problem.satisfies point ≡ true → ¬ IsBetter problem.direction (problem.value point) (problem.end b)
  -- at one point that satisfies, that end is the point's value
  pub end_exact : (b : Box) → Inside b problem.root → IsPoint b
      → problem.satisfies b.lows ≡ true → problem.end b ≡ problem.value b.lows
  -- where the better end is not better than a value, the bound closes the box against it
  pub bound : (b : Box) (w : ℤ) → Inside b problem.root
      → ¬ IsBetter problem.direction (problem.end b) w → problem.refutes Bound b (Some w) ≡ true
  -- what is closed against a value is closed against each value that is as good
  pub later : (reason : Reason) (b : Box) (v w : Option ℤ) → Follows problem.direction v w
      → problem.refutes reason b w ≡ true → problem.refutes reason b v ≡ true
