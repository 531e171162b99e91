-- The sides that wait while the rows of a log are walked along, and the room that the walk has.
use Rattle.std.specs.Prelude.{◌≡◌, ◌+◌, ◌<◌, ◌≤◌, Bool, true, false, List, [], ◌∷◌, length, reverse, drop, vec_capacity, Option, None, Some}
use Rattle.sopl_base.specs.declared.reason.Side.TheVariants.{Le}
use Rattle.box_problem.specs.Steps.{IsCut, cut_away}
use Rattle.box_store.specs.Store.{Mark}
use Rattle.log_rows.specs.declared.rows.Cut.{Cut}
use Rattle.log_rows.specs.declared.rows.Row.{Row}
use Rattle.log_rows.specs.declared.rows.EndLine.{EndLine}
use Rattle.log_rows.specs.declared.rows.EndLine.TheVariants.{Refuted, Split, Point, Unfinished}
use Rattle.log_check.specs.declared.view.LogView.{LogView}
use Rattle.log_check.specs.declared.walk.WaitingSide.{WaitingSide}
use Rattle.log_check.specs.declared.walk.Walk.{Walk}
use Rattle.log_check.specs.Views.{checked_problem}
use Rattle.log_check.specs.Walks.{GoesOn, RowStart, WalkStands, lines_of, starts_at, work_left}

-- where an end splits a box, if it does
abbrev pub cut_in : EndLine → Option Cut
cut_in (Refuted reason) = None
cut_in (Split cut) = Some cut
cut_in Point = None
cut_in Unfinished = None

-- the rows that wait, the newest first, each with the part of the box at its mark that the cut hands to it
abbrev pub waiting_at : List WaitingSide → List Mark → List RowStart
waiting_at [] marks = []
waiting_at (side ∷ sides) [] = []
waiting_at (side ∷ sides) (mark ∷ marks) = starts_at side.row (cut_away mark.box side.cut.cell Le side.cut.k) ∷ waiting_at sides marks

abbrev pub rows_waiting : Walk → List RowStart
rows_waiting walk = waiting_at (reverse walk.later.items) walk.store.marks

-- the rows that a walk has before it
abbrev pub before_it : Bool → Walk → List RowStart
before_it true walk = starts_at walk.at walk.store.box ∷ rows_waiting walk
before_it false walk = []

-- a side that waits: its cut cuts the box at its mark, behind which there is room for all lines from its row on, and fewer wait below it
-- than rows stand before its row
pub record SideHasRoom (rows : List Row) (side : WaitingSide) (mark : Mark) (below : List WaitingSide) : Type 0 where
  pub cut : IsCut mark.box side.cut.cell Le side.cut.k
  pub room : 1 + lines_of (drop side.row rows) ≤ mark.spare
  pub place : length below < side.row

-- one mark is below those of the sides that wait
abbrev pub AllHaveRoom : List Row → List WaitingSide → List Mark → Type 0
AllHaveRoom rows [] [] = ⊥
AllHaveRoom rows [] (mark ∷ []) = Unit {0}
AllHaveRoom rows [] (mark ∷ other ∷ marks) = ⊥
AllHaveRoom rows (side ∷ sides) [] = ⊥
AllHaveRoom rows (side ∷ sides) (mark ∷ marks) = SideHasRoom rows side mark sides × AllHaveRoom rows sides marks

-- the cuts of the sides that wait cut the boxes at their marks, behind which there is room for them
pub record IsCutAt (side : WaitingSide) (mark : Mark) : Type 0 where
  pub cut : IsCut mark.box side.cut.cell Le side.cut.k
  pub room : 1 ≤ mark.spare

abbrev pub AllCut : List WaitingSide → List Mark → Type 0
AllCut [] marks = Unit {0}
AllCut (side ∷ sides) [] = ⊥
AllCut (side ∷ sides) (mark ∷ marks) = IsCutAt side mark × AllCut sides marks

-- a walk took this side as the next row
pub record TakesSide (side : WaitingSide) (sides : List WaitingSide) (mark : Mark) (marks : List Mark) (more : Bool) (new : Walk) : Type 0 where
  pub more_is : more ≡ true
  pub at : new.at ≡ side.row
  pub later : reverse new.later.items ≡ sides
  pub marks_are : new.store.marks ≡ marks
  pub half : new.store.box ≡ cut_away mark.box side.cut.cell Le side.cut.k
  pub room : mark.spare ≤ new.store.spare + 1

pub record TakesNone (marks : List Mark) (more : Bool) (new : Walk) : Type 0 where
  pub more_is : more ≡ false
  pub later : new.later.items ≡ []
  pub marks_are : new.store.marks ≡ marks

-- it took the newest of those that wait, if there was one
abbrev pub TakesNext : List WaitingSide → List Mark → Bool → Walk → Type 0
TakesNext [] marks more new = TakesNone marks more new
TakesNext (side ∷ sides) [] more new = ⊥
TakesNext (side ∷ sides) (mark ∷ marks) more new = TakesSide side sides mark marks more new

-- the oldest mark
abbrev pub oldest : List Mark → Option Mark
oldest [] = None
oldest (mark ∷ []) = Some mark
oldest (mark ∷ other ∷ marks) = oldest (other ∷ marks)

-- a walk has room for all rows
pub record WaitsWell (rows : List Row) (walk : Walk) : Type 0 where
  pub sides : AllHaveRoom rows (reverse walk.later.items) walk.store.marks
  pub capacity : length rows ≤ vec_capacity walk.later

-- and for those from the row at hand on
pub record HasRoomHere (rows : List Row) (walk : Walk) : Type 0 where
  pub store : lines_of (drop walk.at rows) ≤ walk.store.spare
  pub place : length walk.later.items ≤ walk.at

-- so it has, where there is a row at hand; else no side waits
abbrev pub HasRoomIfMore : List Row → Bool → Walk → Type 0
HasRoomIfMore rows true walk = HasRoomHere rows walk
HasRoomIfMore rows false walk = walk.later.items ≡ []

-- a walk went on behind a right row
pub record HasGone (rows : List Row) (old : Walk) (more : Bool) (new : Walk) : Type 0 where
  pub goes : GoesOn rows old.at old.store.box (rows_waiting old) (before_it more new)
  pub waits : WaitsWell rows new
  pub fits : HasRoomIfMore rows more new
  pub oldest_is : oldest new.store.marks ≡ oldest old.store.marks
  pub capacity_is : vec_capacity new.later ≡ vec_capacity old.later
  pub least_is : new.least ≡ old.least
  pub tally_is : new.tally ≡ old.tally

-- a walk looked at the row at hand: it stands as before, and less is left
pub record HasStepped (view : LogView) (old : Walk) (more : Bool) (new : Walk) : Type 0 where
  pub stands : WalkStands (checked_problem view) view.rows.now view.footer.now (before_it true old) old.least old.tally
      → WalkStands (checked_problem view) view.rows.now view.footer.now (before_it more new) new.least new.tally
  pub lighter : work_left (length view.rows.now) (before_it more new) < work_left (length view.rows.now) (before_it true old)
  pub waits : WaitsWell view.rows.now new
  pub fits : HasRoomIfMore view.rows.now more new
  pub oldest_is : oldest new.store.marks ≡ oldest old.store.marks
  pub capacity_is : vec_capacity new.later ≡ vec_capacity old.later
