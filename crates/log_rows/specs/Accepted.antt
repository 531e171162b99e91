-- Which logs are accepted, and what they claim.
use Rattle.std.specs.Prelude.{◌≡◌, ◌⊎◌, ℕ, ◌<◌, ◌≤◌, ℤ, true, List, [], length, Option, None, Some, Contains}
use Rattle.sopl_base.specs.declared.reason.Side.{Side}
use Rattle.sopl_base.specs.declared.reason.Side.TheVariants.{Le, Ge}
use Rattle.sopl_base.specs.declared.reason.Reason.TheVariants.{Bound}
use Rattle.sopl_base.specs.Better.{IsBetter}
use Rattle.sopl_base.specs.declared.limits.TheConstants as largest
use Rattle.log_rows.specs.declared.rows.Cut.{Cut}
use Rattle.log_rows.specs.declared.rows.Row.{Row}
use Rattle.log_rows.specs.declared.rows.EndLine.{EndLine}
use Rattle.log_rows.specs.declared.rows.EndLine.TheVariants.{Refuted, Split, Point, Unfinished}
use Rattle.log_rows.specs.declared.rows.Footer.{Footer}
use Rattle.log_rows.specs.declared.rows.Footer.TheVariants.{Optimal, Infeasible, Bounded}
use Rattle.box_problem.specs.Box.{Box, IsPoint}
use Rattle.box_problem.specs.Steps.{IsCut}
use Rattle.box_problem.specs.BoxProblem.{BoxProblem}
use Rattle.box_problem.specs.Rightness.{AllRight}
use Rattle.box_problem.specs.Reached.{NoneBetter, NoneSatisfies, Reaches}
use Rattle.log_rows.specs.Rows.{row_at, final_of, start_of, depth_of, AreOrdered}
use Rattle.log_rows.specs.Made.{Pending}

-- the value against which all lines of a log are right
abbrev pub claimed : Footer → Option ℤ
claimed (Optimal v) = Some v
claimed Infeasible = None
claimed (Bounded found bound) = found

-- some row is this side of a row
pub record HasSide (rows : List Row) (i : ℕ) (side : Side) : Type 0 where
  pub row : ℕ
  pub exists : row < length rows
  pub parent : (row_at rows row).parent ≡ Some (record { node = i; side = side })

-- a split cuts the box into parts that are not empty, and both sides are among the rows
pub record RightSplit (b : Box) (rows : List Row) (i : ℕ) (at : Cut) : Type 0 where
  pub cut : IsCut b at.cell Le at.k
  pub low : HasSide rows i Le
  pub high : HasSide rows i Ge

-- a value is claimed, and this one is not better
abbrev pub IsClaimed : BoxProblem → Footer → ℤ → Type 0
IsClaimed problem (Optimal v) value = ¬ IsBetter problem.direction value v
IsClaimed problem Infeasible value = ⊥
IsClaimed problem (Bounded None bound) value = ⊥
IsClaimed problem (Bounded (Some v) bound) value = ¬ IsBetter problem.direction value v

-- the box is one point that satisfies, and its value is not better than the one that is claimed
pub record RightPoint (problem : BoxProblem) (footer : Footer) (b : Box) : Type 0 where
  pub one : IsPoint b
  pub satisfies : problem.satisfies b.lows ≡ true
  pub value : IsClaimed problem footer (problem.value b.lows)

-- what is not finished has no better value where a value is claimed to be the best, and is not there where it is claimed
-- that no point satisfies
abbrev pub RightOpen : BoxProblem → Footer → Box → Type 0
RightOpen problem (Optimal v) b = problem.refutes Bound b (Some v) ≡ true
RightOpen problem Infeasible b = ⊥
RightOpen problem (Bounded found bound) b = Unit {0}

abbrev pub RightEnd : BoxProblem → Footer → Box → List Row → ℕ → EndLine → Type 0
RightEnd problem footer b rows i (Refuted reason) = problem.refutes reason b (claimed footer) ≡ true
RightEnd problem footer b rows i (Split cut) = RightSplit b rows i cut
RightEnd problem footer b rows i Point = RightPoint problem footer b
RightEnd problem footer b rows i Unfinished = RightOpen problem footer b

-- each line of a row is right
pub record RightRow (problem : BoxProblem) (footer : Footer) (rows : List Row) (i : ℕ) : Type 0 where
  pub steps : AllRight problem (claimed footer) (start_of problem.root rows i) (row_at rows i).steps
  pub end : RightEnd problem footer (final_of problem.root rows i) rows i (row_at rows i).end

-- a tree of right lines: the rows are in order, and each line of them is right against the value that is claimed, whether or not the claim itself is
-- right
pub record AreRight (problem : BoxProblem) (rows : List Row) (footer : Footer) : Type 0 where
  pub ordered : AreOrdered rows
  pub right : (i : ℕ) → i < length rows → RightRow problem footer rows i

-- some row is a point of this value
pub record IsFound (problem : BoxProblem) (rows : List Row) (v : ℤ) : Type 0 where
  pub row : ℕ
  pub exists : row < length rows
  pub is_point : (row_at rows row).end ≡ Point
  pub value : problem.value (final_of problem.root rows row).lows ≡ v

-- some row is not finished, and this is the better end over its box
pub record IsOpenEnd (problem : BoxProblem) (rows : List Row) (bound : ℤ) : Type 0 where
  pub row : ℕ
  pub exists : row < length rows
  pub is_open : (row_at rows row).end ≡ Unfinished
  pub end : problem.end (final_of problem.root rows row) ≡ bound

-- the better end over the box of no row that is not finished is better than this
abbrev pub BoundsOpen : BoxProblem → List Row → ℤ → Type 0
BoundsOpen problem rows bound =
    (i : ℕ) → i < length rows → (row_at rows i).end ≡ Unfinished → ¬ IsBetter problem.direction (problem.end (final_of problem.root rows i)) bound

-- the bound is the best of the value found and of the better ends over what is not finished
pub record BoundsFound (problem : BoxProblem) (rows : List Row) (v bound : ℤ) : Type 0 where
  pub found : IsFound problem rows v
  pub one : (bound ≡ v) ⊎ IsOpenEnd problem rows bound
  pub value : ¬ IsBetter problem.direction v bound
  pub opens : BoundsOpen problem rows bound

-- nothing was found, something is not finished, and the bound is the best of the better ends there
pub record BoundsNone (problem : BoxProblem) (rows : List Row) (bound : ℤ) : Type 0 where
  pub one : IsOpenEnd problem rows bound
  pub opens : BoundsOpen problem rows bound

abbrev pub RightFooter : BoxProblem → List Row → Footer → Type 0
RightFooter problem rows (Optimal v) = IsFound problem rows v
RightFooter problem rows Infeasible = Unit {0}
RightFooter problem rows (Bounded (Some v) bound) = BoundsFound problem rows v bound
RightFooter problem rows (Bounded None bound) = BoundsNone problem rows bound

-- no node of an accepted log lies deeper
abbrev pub greatest_depth : ℕ
greatest_depth = largest.NODE_DEPTH

-- a log is accepted where its rows are in order, none too deep, and every line is right, the footer included
pub record Accepted (problem : BoxProblem) (rows : List Row) (footer : Footer) : Type 0 where
  pub ordered : AreOrdered rows
  pub some : 0 < length rows
  pub shallow : (i : ℕ) → i < length rows → depth_of rows i ≤ greatest_depth
  pub right : (i : ℕ) → i < length rows → RightRow problem footer rows i
  pub footer_right : RightFooter problem rows footer

-- what a log claims is true of all points of the root
abbrev pub Holds : BoxProblem → Footer → Type 0
Holds problem (Optimal v) = Reaches problem v × NoneBetter problem v
Holds problem Infeasible = NoneSatisfies problem
Holds problem (Bounded None bound) = NoneBetter problem bound
Holds problem (Bounded (Some v) bound) = Reaches problem v × NoneBetter problem bound

-- of the better ends over open boxes, this is one; and it bounds them all
pub record IsPendingEnd (problem : BoxProblem) (opens : List Pending) (bound : ℤ) : Type 0 where
  pub node : Pending
  pub is_open : Contains opens node
  pub end : problem.end node.at ≡ bound

abbrev pub BoundsPending : BoxProblem → List Pending → ℤ → Type 0
BoundsPending problem opens bound = (x : Pending) → Contains opens x → ¬ IsBetter problem.direction (problem.end x.at) bound

-- the claim with which a search may end that found this best value and leaves these nodes open
pub record ClosesOptimal (problem : BoxProblem) (opens : List Pending) (best : Option ℤ) (v : ℤ) : Type 0 where
  pub best_is : best ≡ Some v
  pub opens_are : BoundsPending problem opens v

pub record ClosesInfeasible (opens : List Pending) (best : Option ℤ) : Type 0 where
  pub best_is : best ≡ None
  pub none : opens ≡ []

pub record ClosesFound (problem : BoxProblem) (opens : List Pending) (best : Option ℤ) (v bound : ℤ) : Type 0 where
  pub best_is : best ≡ Some v
  pub one : (bound ≡ v) ⊎ IsPendingEnd problem opens bound
  pub value : ¬ IsBetter problem.direction v bound
  pub opens_are : BoundsPending problem opens bound

pub record ClosesNone (problem : BoxProblem) (opens : List Pending) (best : Option ℤ) (bound : ℤ) : Type 0 where
  pub best_is : best ≡ None
  pub one : IsPendingEnd problem opens bound
  pub opens_are : BoundsPending problem opens bound

abbrev pub Closes : BoxProblem → List Pending → Option ℤ → Footer → Type 0
Closes problem opens best (Optimal v) = ClosesOptimal problem opens best v
Closes problem opens best Infeasible = ClosesInfeasible opens best
Closes problem opens best (Bounded (Some v) bound) = ClosesFound problem opens best v bound
Closes problem opens best (Bounded None bound) = ClosesNone problem opens best bound
