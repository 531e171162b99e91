-- What is told of one row: whether its steps and its end are right, and what it adds to what the last line claims.
use Rattle.std.specs.Prelude.{◌≡◌, ◌⊎◌, ℕ, ℤ, Bool, true, false, ◌&&◌, nat_lt, int_le, int_lt, List, length, take, slice_get, Option, None, Some}
use Rattle.std.specs.Bool.{Decides}
use Rattle.sopl_base.specs.declared.direction.Direction.{Direction}
use Rattle.sopl_base.specs.declared.reason.Side.{Side}
use Rattle.sopl_base.specs.declared.reason.Side.TheVariants.{Le, Ge}
use Rattle.sopl_base.specs.declared.reason.Step.{Step}
use Rattle.sopl_base.specs.Better.{IsBetter}
use Rattle.box_problem.specs.Box.{Box, Inside, low, high}
use Rattle.box_problem.specs.Steps.{after_steps}
use Rattle.box_problem.specs.BoxProblem.{BoxProblem}
use Rattle.box_problem.specs.Rightness.{IsRight, AllRight}
use Rattle.log_rows.specs.declared.rows.Row.{Row}
use Rattle.log_rows.specs.declared.rows.EndLine.{EndLine}
use Rattle.log_rows.specs.declared.rows.EndLine.TheVariants.{Point, Unfinished}
use Rattle.log_rows.specs.declared.rows.Footer.{Footer}
use Rattle.log_rows.specs.declared.rows.Footer.TheVariants.{Optimal, Infeasible, Bounded}
use Rattle.log_rows.specs.Rows.{row_at}
use Rattle.log_rows.specs.Accepted.{claimed, RightEnd}
use Rattle.log_check.specs.declared.tally.Tally.{Tally}

-- whether a number cuts an interval, and a box
abbrev pub cuts_between : Side → ℤ → ℤ → ℤ → Bool
cuts_between Le lo k hi = int_le lo k && int_lt k hi
cuts_between Ge lo k hi = int_lt lo k && int_le k hi

abbrev pub cuts_at : Box → ℕ → Side → ℤ → Bool
cuts_at b cell side k = nat_lt cell (length b.lows) && cuts_between side (low b cell) k (high b cell)

-- a step is the first of these that is not right
pub record IsFirstBad (problem : BoxProblem) (v : Option ℤ) (b : Box) (steps : List Step) (k : ℕ) : Type 0 where
  pub step : Step
  pub is : slice_get steps k ≡ Some step
  pub before : AllRight problem v b (take k steps)
  pub wrong : ¬ IsRight problem v (after_steps b (take k steps)) step

-- the bound of a claim, where it has one
abbrev pub bound_in : Footer → Option ℤ
bound_in (Optimal v) = None
bound_in Infeasible = None
bound_in (Bounded found bound) = Some bound

-- a value is better than a bound that is claimed
abbrev pub Passes : Direction → ℤ → Option ℤ → Type 0
Passes direction value None = ⊥
Passes direction value (Some bound) = IsBetter direction value bound

-- a value is claimed to be reached, and this one is not better
abbrev pub IsWithinClaim : Direction → ℤ → Option ℤ → Type 0
IsWithinClaim direction value None = ⊥
IsWithinClaim direction value (Some v) = ¬ IsBetter direction value v

-- a node that ends so, with this box, is a point of the value that is claimed; or is not finished, and the better end there is the bound
-- that is claimed; or is better than it
abbrev pub ReachesClaim : BoxProblem → Footer → Box → EndLine → Type 0
ReachesClaim problem footer b end = (end ≡ Point) × (claimed footer ≡ Some (problem.value b.lows))

abbrev pub TouchesBound : BoxProblem → Footer → Box → EndLine → Type 0
TouchesBound problem footer b end = (end ≡ Unfinished) × (bound_in footer ≡ Some (problem.end b))

abbrev pub PassesBound : BoxProblem → Footer → Box → EndLine → Type 0
PassesBound problem footer b end = (end ≡ Unfinished) × Passes problem.direction (problem.end b) (bound_in footer)

-- what is kept of no row
abbrev pub no_tally : Tally
no_tally = record { reached = false; touched = false; passed = false }

-- what is kept is so now where it was so before, or is so here
pub record IsNoted (problem : BoxProblem) (footer : Footer) (b : Box) (end : EndLine) (old new : Tally) : Type 0 where
  pub reached : Decides new.reached ((old.reached ≡ true) ⊎ ReachesClaim problem footer b end)
  pub touched : Decides new.touched ((old.touched ≡ true) ⊎ TouchesBound problem footer b end)
  pub passed : Decides new.passed ((old.passed ≡ true) ⊎ PassesBound problem footer b end)

-- a right row: its steps lead to a box on which its end is right
pub record IsRightHere (problem : BoxProblem) (rows : List Row) (footer : Footer) (i : ℕ) (before after : Box) (old new : Tally) : Type 0 where
  pub steps : AllRight problem (claimed footer) before (row_at rows i).steps
  pub leads : after ≡ after_steps before (row_at rows i).steps
  pub inside : Inside after problem.root
  pub end : RightEnd problem footer after rows i (row_at rows i).end
  pub noted : IsNoted problem footer after (row_at rows i).end old new

-- a row whose steps are all right, and whose end is not
pub record IsWrongEndHere (problem : BoxProblem) (rows : List Row) (footer : Footer) (i : ℕ) (b : Box) : Type 0 where
  pub steps : AllRight problem (claimed footer) b (row_at rows i).steps
  pub wrong : ¬ RightEnd problem footer (after_steps b (row_at rows i).steps) rows i (row_at rows i).end

-- what is told of an end: that it is not right, or what is kept behind it
abbrev pub IsEndJudged : BoxProblem → List Row → Footer → ℕ → Box → Tally → Option Tally → Type 0
IsEndJudged problem rows footer i b old None = ¬ RightEnd problem footer b rows i (row_at rows i).end
IsEndJudged problem rows footer i b old (Some new) =
    RightEnd problem footer b rows i (row_at rows i).end × IsNoted problem footer b (row_at rows i).end old new
