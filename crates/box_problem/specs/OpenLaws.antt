-- What holds of the open boxes of a search from one node to the next.
use Rattle.std.specs.Prelude.{◌≡◌, ◌↔◌, ℕ, ◌+◌, ◌<◌, ℤ, true, List, [], ◌∷◌, ◌++◌, Option, Some, None, Any}
use Rattle.sopl_base.specs.declared.reason.Side.{Side}
use Rattle.sopl_base.specs.declared.reason.Reason.{Reason}
use Rattle.sopl_base.specs.declared.reason.Step.{Step}
use Rattle.sopl_base.specs.Better.{IsBetter}
use Rattle.box_problem.specs.Box.{Box, Inside, IsPoint, points}
use Rattle.box_problem.specs.Steps.{IsCut, narrowed, cut_away, after_steps}
use Rattle.box_problem.specs.BoxProblem.{BoxProblem, Beats, Lawful}
use Rattle.box_problem.specs.Rightness.{AllRight}
use Rattle.box_problem.specs.Covers.{nodes_for}
use Rattle.box_problem.specs.Reached.{IsReached, NoneBetter, NoneSatisfies}
use Rattle.box_problem.specs.Opens.{AreOpen, IsBetterOf, IsBound, IsUnsettled}

-- a search begins with the root alone, and with nothing found
abbrev pub OpenAtFirst : Type 0
OpenAtFirst = (problem : BoxProblem) → Lawful problem → AreOpen problem None 0 (problem.root ∷ [])

-- the order of the open boxes is free
abbrev pub OpenInAnyOrder : Type 0
OpenInAnyOrder =
    (problem : BoxProblem) (v : Option ℤ) (finished : ℕ) (b : Box) (prefix back : List Box)
    → AreOpen problem v finished (prefix ++ b ∷ back) ↔ AreOpen problem v finished (b ∷ (prefix ++ back))

-- right steps may be taken in an open box
abbrev pub OpenAfterSteps : Type 0
OpenAfterSteps =
    (problem : BoxProblem) (v : Option ℤ) (finished : ℕ) (b : Box) (steps : List Step) (opens : List Box)
    → Lawful problem → AllRight problem v b steps
    → AreOpen problem v finished (b ∷ opens) → AreOpen problem v finished (after_steps b steps ∷ opens)

-- a box that a reason closes is one node more
abbrev pub OpenAfterRefuted : Type 0
OpenAfterRefuted =
    (problem : BoxProblem) (v : Option ℤ) (finished : ℕ) (b : Box) (reason : Reason) (opens : List Box)
    → Lawful problem → problem.refutes reason b v ≡ true
    → AreOpen problem v finished (b ∷ opens) → AreOpen problem v (finished + 1) opens

-- and so is a box of one point that beats v, whose value takes the place of v
abbrev pub OpenAfterPoint : Type 0
OpenAfterPoint =
    (problem : BoxProblem) (v : Option ℤ) (finished : ℕ) (b : Box) (opens : List Box)
    → Lawful problem → IsPoint b → Beats problem v b.lows
    → AreOpen problem v finished (b ∷ opens) → AreOpen problem (Some (problem.end b)) (finished + 1) opens

-- and a box that is cut, whose two parts take its place
abbrev pub OpenAfterSplit : Type 0
OpenAfterSplit =
    (problem : BoxProblem) (v : Option ℤ) (finished : ℕ) (b : Box) (cell : ℕ) (side : Side) (k : ℤ) (opens : List Box)
    → IsCut b cell side k → AreOpen problem v finished (b ∷ opens)
    → AreOpen problem v (finished + 1) (narrowed b cell side k ∷ cut_away b cell side k ∷ opens)

-- the box of one point that beats v has a point of the root, which satisfies
abbrev pub PointIsReached : Type 0
PointIsReached =
    (problem : BoxProblem) (v : Option ℤ) (b : Box) → Lawful problem → Inside b problem.root → IsPoint b → Beats problem v b.lows
    → IsReached problem (problem.end b) b.lows

-- with no box open, no point satisfies where none was found, and none is better than the best one that was found
abbrev pub NoneAtLast : Type 0
NoneAtLast = (problem : BoxProblem) (finished : ℕ) → AreOpen problem None finished [] → NoneSatisfies problem

abbrev pub BestAtLast : Type 0
BestAtLast = (problem : BoxProblem) (v : ℤ) (finished : ℕ) → AreOpen problem (Some v) finished [] → NoneBetter problem v

-- no point that satisfies is better than the bound
abbrev pub BoundHolds : Type 0
BoundHolds =
    (problem : BoxProblem) (v : Option ℤ) (finished : ℕ) (opens : List Box) (bound : ℤ)
    → Lawful problem → AreOpen problem v finished opens → IsBound problem v opens bound → NoneBetter problem bound

-- the bound grows box by box
abbrev pub BoundGrows : Type 0
BoundGrows =
    (problem : BoxProblem) (v : Option ℤ) (b : Box) (opens : List Box) (best bound : ℤ)
    → IsBetterOf problem.direction v (problem.end b) best → IsBound problem (Some best) opens bound → IsBound problem v (b ∷ opens) bound

abbrev pub BoundAtLast : Type 0
BoundAtLast = (problem : BoxProblem) (v : ℤ) → IsBound problem (Some v) [] v

-- where the bound is not better than the best value that was found, no point is
abbrev pub BestWithinBound : Type 0
BestWithinBound =
    (problem : BoxProblem) (v : ℤ) (finished : ℕ) (opens : List Box) (bound : ℤ)
    → Lawful problem → AreOpen problem (Some v) finished opens → IsBound problem (Some v) opens bound
    → ¬ IsBetter problem.direction bound v → NoneBetter problem v

-- where it is better, the better end over an open box is
abbrev pub BoundIsHopeful : Type 0
BoundIsHopeful =
    (problem : BoxProblem) (v : ℤ) (opens : List Box) (bound : ℤ)
    → IsBound problem (Some v) opens bound → IsBetter problem.direction bound v
    → Any (λ b. IsBetter problem.direction (problem.end b) v) opens

-- what is unsettled after so many nodes: the points of the root allow more
abbrev pub UnsettledWithin : Type 0
UnsettledWithin =
    (problem : BoxProblem) (v : Option ℤ) (finished : ℕ) (bound : ℤ)
    → IsUnsettled problem v finished bound → finished < nodes_for (points problem.root)
