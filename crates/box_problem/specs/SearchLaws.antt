-- What holds of right steps, and of the boxes that are open in a search.
use Rattle.std.specs.Prelude.{◌≡◌, ◌↔◌, ℕ, ◌+◌, ◌<◌, ℤ, true, List, [], ◌∷◌, ◌++◌, Option, Some, IfSome, All}
use Rattle.sopl_base.specs.declared.reason.Side.{Side}
use Rattle.sopl_base.specs.declared.reason.Reason.{Reason}
use Rattle.sopl_base.specs.declared.reason.Step.{Step}
use Rattle.sopl_base.specs.Better.{IsBetter}
use Rattle.box_problem.specs.Box.{Box, IsBox, Inside, InBox, IsPoint, points, width}
use Rattle.box_problem.specs.Steps.{IsCut, narrowed, cut_away, after_step, after_steps}
use Rattle.box_problem.specs.BoxProblem.{BoxProblem, Beats, Follows, Lawful}
use Rattle.box_problem.specs.Rightness.{IsRight, AllRight, IsConsistent}
use Rattle.box_problem.specs.Covers.{Covers, Counts, nodes_for}

-- a right step leads to a part that is less wide
abbrev pub StepsNarrow : Type 0
StepsNarrow =
    (problem : BoxProblem) (v : Option ℤ) (b : Box) (s : Step) → IsBox b → IsRight problem v b s
    → Inside (after_step b s) b × (width (after_step b s) < width b)

-- right steps lead to a part of the box
abbrev pub StepsLeadInside : Type 0
StepsLeadInside =
    (problem : BoxProblem) (v : Option ℤ) (b : Box) (steps : List Step) → IsBox b → AllRight problem v b steps
    → Inside (after_steps b steps) b

-- and lose no point that beats v
abbrev pub StepsKeep : Type 0
StepsKeep =
    (problem : BoxProblem) (v : Option ℤ) (b : Box) (steps : List Step) (point : List ℤ)
    → Lawful problem → Inside b problem.root → AllRight problem v b steps
    → InBox b point → Beats problem v point → InBox (after_steps b steps) point

-- a point that beats a value beats each value that follows after it, and what beats nothing yet satisfies alone
abbrev pub BeatsEarlier : Type 0
BeatsEarlier =
    (problem : BoxProblem) (v w : Option ℤ) (point : List ℤ) → Follows problem.direction v w
    → Beats problem v point → Beats problem w point

-- a consistent box of one point is a point that beats v
abbrev pub ConsistentPoint : Type 0
ConsistentPoint =
    (problem : BoxProblem) (v : Option ℤ) (b : Box) → Lawful problem → Inside b problem.root → IsPoint b
    → IsConsistent problem v b → Beats problem v b.lows

-- the search begins with the root alone
abbrev pub CoversAtFirst : Type 0
CoversAtFirst = (problem : BoxProblem) (v : Option ℤ) → Lawful problem → Covers problem v (problem.root ∷ [])

-- the order of the open boxes is free
abbrev pub CoversInAnyOrder : Type 0
CoversInAnyOrder =
    (problem : BoxProblem) (v : Option ℤ) (b : Box) (prefix back : List Box)
    → Covers problem v (prefix ++ b ∷ back) ↔ Covers problem v (b ∷ (prefix ++ back))

-- right steps may be taken in an open box
abbrev pub CoversAfterSteps : Type 0
CoversAfterSteps =
    (problem : BoxProblem) (v : Option ℤ) (b : Box) (steps : List Step) (opens : List Box)
    → Lawful problem → AllRight problem v b steps → Covers problem v (b ∷ opens) → Covers problem v (after_steps b steps ∷ opens)

-- a box that a reason closes may be left out
abbrev pub CoversAfterRefuted : Type 0
CoversAfterRefuted =
    (problem : BoxProblem) (reason : Reason) (v : Option ℤ) (b : Box) (opens : List Box)
    → Lawful problem → problem.refutes reason b v ≡ true → Covers problem v (b ∷ opens) → Covers problem v opens

-- a box of one point that beats v may be left out where its value takes the place of v
abbrev pub CoversAfterPoint : Type 0
CoversAfterPoint =
    (problem : BoxProblem) (v : Option ℤ) (b : Box) (opens : List Box)
    → IsPoint b → Beats problem v b.lows → Covers problem v (b ∷ opens) → Covers problem (Some (problem.value b.lows)) opens

-- the two parts of a cut may take the place of a box
abbrev pub CoversAfterSplit : Type 0
CoversAfterSplit =
    (problem : BoxProblem) (v : Option ℤ) (b : Box) (cell : ℕ) (side : Side) (k : ℤ) (opens : List Box)
    → IsCut b cell side k → Covers problem v (b ∷ opens) → Covers problem v (narrowed b cell side k ∷ cut_away b cell side k ∷ opens)

-- with no box open, no point of the root beats v
abbrev pub CoversAtLast : Type 0
CoversAtLast =
    (problem : BoxProblem) (v : Option ℤ) (point : List ℤ) → Covers problem v [] → InBox problem.root point → ¬ Beats problem v point

-- where neither v nor the better end of an open box is better than a value, no point that satisfies is
abbrev pub CoversBound : Type 0
CoversBound =
    (problem : BoxProblem) (v : Option ℤ) (opens : List Box) (bound : ℤ) (point : List ℤ)
    → Lawful problem → Covers problem v opens
    → IfSome v (λ x. ¬ IsBetter problem.direction x bound) → All (λ b. ¬ IsBetter problem.direction (problem.end b) bound) opens
    → InBox problem.root point → problem.satisfies point ≡ true → ¬ IsBetter problem.direction (problem.value point) bound

-- nothing is finished at first
abbrev pub CountsAtFirst : Type 0
CountsAtFirst = (problem : BoxProblem) → Counts problem 0 (problem.root ∷ [])

abbrev pub CountsInAnyOrder : Type 0
CountsInAnyOrder =
    (problem : BoxProblem) (finished : ℕ) (b : Box) (prefix back : List Box)
    → Counts problem finished (prefix ++ b ∷ back) ↔ Counts problem finished (b ∷ (prefix ++ back))

-- right steps leave no more points
abbrev pub CountsAfterSteps : Type 0
CountsAfterSteps =
    (problem : BoxProblem) (v : Option ℤ) (finished : ℕ) (b : Box) (steps : List Step) (opens : List Box)
    → IsBox b → AllRight problem v b steps → Counts problem finished (b ∷ opens) → Counts problem finished (after_steps b steps ∷ opens)

-- a box that is closed, or is a point, is one node more
abbrev pub CountsAfterEnd : Type 0
CountsAfterEnd =
    (problem : BoxProblem) (finished : ℕ) (b : Box) (opens : List Box)
    → Counts problem finished (b ∷ opens) → Counts problem (finished + 1) opens

-- a box that is split is one node more, and its parts have their own
abbrev pub CountsAfterSplit : Type 0
CountsAfterSplit =
    (problem : BoxProblem) (finished : ℕ) (b : Box) (cell : ℕ) (side : Side) (k : ℤ) (opens : List Box)
    → IsBox b → IsCut b cell side k → Counts problem finished (b ∷ opens)
    → Counts problem (finished + 1) (narrowed b cell side k ∷ cut_away b cell side k ∷ opens)

-- while a box is open, fewer nodes are finished than the root's points allow
abbrev pub CountsLeave : Type 0
CountsLeave =
    (problem : BoxProblem) (finished : ℕ) (b : Box) (opens : List Box)
    → Counts problem finished (b ∷ opens) → finished < nodes_for (points problem.root)
