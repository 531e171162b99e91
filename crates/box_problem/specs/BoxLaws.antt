-- What holds of boxes, their parts, their points and their cuts.
use Rattle.std.specs.Prelude.{◌≡◌, ◌↔◌, ◌⊎◌, ℕ, ◌+◌, ◌<◌, ℤ, List, length, Contains, AllPairs}
use Rattle.sopl_base.specs.declared.interval.Interval.{Interval}
use Rattle.sopl_base.specs.declared.reason.Side.{Side}
use Rattle.box_problem.specs.Box.{Box, box_of, IsBox, Inside, InBox, IsPoint, points, width}
use Rattle.box_problem.specs.Steps.{IsCut, narrowed, cut_away}

-- intervals, which are never empty, make a box
abbrev pub IntervalsMakeABox : Type 0
IntervalsMakeABox = (intervals : List Interval) → IsBox (box_of intervals)

-- a box is a part of itself
abbrev pub PartOfItself : Type 0
PartOfItself = (b : Box) → IsBox b → Inside b b

-- a part of a part is a part
abbrev pub PartsOfParts : Type 0
PartsOfParts = (a b c : Box) → Inside a b → Inside b c → Inside a c

-- a point of a part is a point of the whole
abbrev pub PointsOfParts : Type 0
PointsOfParts = (part whole : Box) (point : List ℤ) → Inside part whole → InBox part point → InBox whole point

-- a box whose intervals are one number each has that one point
abbrev pub OnePoint : Type 0
OnePoint = (b : Box) (point : List ℤ) → IsBox b → IsPoint b → InBox b point ↔ (point ≡ b.lows)

-- a cut makes two parts
abbrev pub CutsMakeParts : Type 0
CutsMakeParts =
    (b : Box) (cell : ℕ) (side : Side) (k : ℤ) → IsBox b → IsCut b cell side k
    → Inside (narrowed b cell side k) b × Inside (cut_away b cell side k) b

-- a point lies in one of the two parts exactly where it lies in the box
abbrev pub CutsCover : Type 0
CutsCover =
    (b : Box) (cell : ℕ) (side : Side) (k : ℤ) (point : List ℤ) → IsBox b → IsCut b cell side k
    → InBox b point ↔ (InBox (narrowed b cell side k) point ⊎ InBox (cut_away b cell side k) point)

-- and never in both
abbrev pub CutsSeparate : Type 0
CutsSeparate =
    (b : Box) (cell : ℕ) (side : Side) (k : ℤ) (point : List ℤ) → IsBox b → IsCut b cell side k
    → InBox (narrowed b cell side k) point → ¬ InBox (cut_away b cell side k) point

-- the two parts have the points of the box between them
abbrev pub CutsCount : Type 0
CutsCount =
    (b : Box) (cell : ℕ) (side : Side) (k : ℤ) → IsBox b → IsCut b cell side k
    → points (narrowed b cell side k) + points (cut_away b cell side k) ≡ points b

-- both parts are less wide than the box
abbrev pub CutsNarrow : Type 0
CutsNarrow =
    (b : Box) (cell : ℕ) (side : Side) (k : ℤ) → IsBox b → IsCut b cell side k
    → (width (narrowed b cell side k) < width b) × (width (cut_away b cell side k) < width b)

-- `points` is the number of the points of a box: they stand in a list of this length, each once
abbrev pub PointsAreCounted : Type 0
PointsAreCounted =
    (b : Box) → IsBox b
    → (list : List (List ℤ)) × (length list ≡ points b) × ((point : List ℤ) → Contains list point ↔ InBox b point) × AllPairs (λ p q. ¬ p ≡ q) list
