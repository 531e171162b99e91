-- What may be told of all points of the root: which values are reached, and that none is better.
use Rattle.std.specs.Prelude.{◌≡◌, ℤ, true, List}
use Rattle.sopl_base.specs.Better.{IsBetter}
use Rattle.box_problem.specs.Box.{InBox}
use Rattle.box_problem.specs.BoxProblem.{BoxProblem}

-- a point of the root that satisfies, and its value
pub record IsReached (problem : BoxProblem) (v : ℤ) (point : List ℤ) : Type 0 where
  pub inside : InBox problem.root point
  pub satisfies : problem.satisfies point ≡ true
  pub valued : v ≡ problem.value point

-- some point of the root satisfies and has this value
abbrev pub Reaches : BoxProblem → ℤ → Type 0
Reaches problem v = (point : List ℤ) × IsReached problem v point

-- no point of the root satisfies
abbrev pub NoneSatisfies : BoxProblem → Type 0
NoneSatisfies problem = (point : List ℤ) → InBox problem.root point → ¬ problem.satisfies point ≡ true

-- no point of the root that satisfies is better than a value
abbrev pub NoneBetter : BoxProblem → ℤ → Type 0
NoneBetter problem v =
    (point : List ℤ) → InBox problem.root point → problem.satisfies point ≡ true
    → ¬ IsBetter problem.direction (problem.value point) v
