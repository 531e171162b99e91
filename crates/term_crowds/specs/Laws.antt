-- What holds of crowds, of tight windows and of the times of tasks, and what both global conditions are over a box by them.
use Rattle.std.specs.Prelude.{◌≡◌, ◌↔◌, ◌⊎◌, ℤ, ◌≤ℤ◌, true, false, List}
use Rattle.std.specs.List.{list_any}
use Rattle.std.specs.Ordering.{int_eq}
use Rattle.box_problem.specs.Box.{Box, IsBox, Inside}
use Rattle.term_language.specs.Ends.{Ends}
use Rattle.term_language.specs.Globals.{is_inside, never_differ, always_differ, TaskEnds, never_fit, always_fit}
use Rattle.term_language.specs.Laws.{IsProper, AreProper, AreProperTasks}
use Rattle.term_language.specs.Marks.{both, all_marks}
use Rattle.term_language.specs.Rules.{Reading, interval, intervals, mark, marks, task_ends, task_mark, truth}
use Rattle.term_language.specs.Terms.{Term, Terms, Tasks, AllDifferent, Cumulative}
use Rattle.term_language.specs.declared.answers.Defined.TheVariants.{Never, Always}
use Rattle.term_language.specs.declared.answers.Truth.TheVariants.{False, True}
use Rattle.term_crowds.specs.Crowds.{AllOrdered, HasCrowd, some_found, among, at_low, at_high, IsTight, IsClear}
use Rattle.term_crowds.specs.Crowds.{AreWhole, LowsWhole, TasksOrdered, DemandsOrdered, some_negative, all_sound, HasPeak, IsEnough}

-- what never differs is what has a crowd, between any two numbers
abbrev pub AnyCrowdCounts : Type 0
AnyCrowdCounts = (es : List Ends) → AllOrdered es → (never_differ es ≡ true) ↔ HasCrowd es

-- the windows find a crowd exactly where there is one
abbrev pub WindowsFindCrowds : Type 0
WindowsFindCrowds = (es : List Ends) → AllOrdered es → some_found es ≡ never_differ es

-- intervals with no number in common are not crowded
abbrev pub ApartUncrowded : Type 0
ApartUncrowded = (es : List Ends) → AllOrdered es → always_differ es ≡ true → never_differ es ≡ false

-- an interval that gets smaller makes a crowd only through a tight window that has the smaller interval and had not the larger one
abbrev pub TightAlone : Type 0
TightAlone =
    (before : List Ends) (larger smaller : Ends) (after : List Ends) → AllOrdered (among before larger after)
    → never_differ (among before larger after) ≡ false → IsClear (among before larger after) larger smaller
    → never_differ (among before smaller after) ≡ false

-- and through such a window it always does
abbrev pub TightAlways : Type 0
TightAlways =
    (before : List Ends) (larger smaller : Ends) (after : List Ends) (a b : ℤ) → AllOrdered (among before smaller after)
    → IsTight (among before larger after) a b → is_inside a b smaller ≡ true → is_inside a b larger ≡ false
    → never_differ (among before smaller after) ≡ true

-- where there is no crowd, each tight window begins at a lower end
abbrev pub TightBeginAtLows : Type 0
TightBeginAtLows =
    (a b : ℤ) (es : List Ends) → AllOrdered es → never_differ es ≡ false → IsTight es a b
    → list_any (λ (x : Ends). int_eq x.low a) es ≡ true

-- so the windows from lower ends tell it of all
abbrev pub LowsTellAll : Type 0
LowsTellAll = (es : List Ends) → AllOrdered es → never_differ es ≡ false → LowsWhole es es → AreWhole es

-- where tight windows have the whole of each interval that has an end in them, an interval at one of its ends makes no crowd
abbrev pub EndsMakeNoCrowd : Type 0
EndsMakeNoCrowd =
    (before : List Ends) (e : Ends) (after : List Ends) → AllOrdered (among before e after)
    → never_differ (among before e after) ≡ false → AreWhole (among before e after)
    → (never_differ (among before (at_low e) after) ≡ false) × (never_differ (among before (at_high e) after) ≡ false)

-- tasks that never fit are those with a length or a demand that is surely negative, or with a peak at any time
abbrev pub AnyTimeMayPeak : Type 0
AnyTimeMayPeak =
    (ts : List TaskEnds) (capacity : Ends)
    → (never_fit ts capacity ≡ true) ↔ ((some_negative ts ≡ true) ⊎ HasPeak ts capacity)

-- tasks that always fit are those without a length or a demand that may be negative, for which the capacity is enough at all times
abbrev pub EnoughAtAllTimes : Type 0
EnoughAtAllTimes =
    (ts : List TaskEnds) (capacity : Ends) → DemandsOrdered ts
    → (always_fit ts capacity ≡ true) ↔ ((all_sound ts ≡ true) × IsEnough ts capacity)

-- tasks that always fit do not never fit
abbrev pub FittingIsNotFailing : Type 0
FittingIsNotFailing =
    (ts : List TaskEnds) (capacity : Ends) → TasksOrdered ts → capacity.low ≤ℤ capacity.high
    → always_fit ts capacity ≡ true → never_fit ts capacity ≡ false

-- over each box inside the root no interval is empty
abbrev pub IntervalsOrdered : Type 0
IntervalsOrdered =
    (reading : Reading) (root b : Box) (ts : Terms) → IsBox root → Inside b root → AreProper ts → AllOrdered (intervals reading root b ts)

abbrev pub TaskIntervalsOrdered : Type 0
TaskIntervalsOrdered =
    (reading : Reading) (root b : Box) (ts : Tasks) → IsBox root → Inside b root → AreProperTasks ts → TasksOrdered (task_ends reading root b ts)

-- so there `allDifferent` is False exactly where a term is Never defined, or some crowd lies between any two numbers
abbrev pub FalseByCrowds : Type 0
FalseByCrowds =
    (reading : Reading) (root b : Box) (ts : Terms) → IsBox root → Inside b root → AreProper ts
    → (truth reading root b (AllDifferent ts) ≡ False)
    ↔ ((all_marks (marks reading root b ts) ≡ Never) ⊎ HasCrowd (intervals reading root b ts))

-- and True exactly where all terms are Always defined, and no two intervals have a number in common
abbrev pub TrueWhereApart : Type 0
TrueWhereApart =
    (reading : Reading) (root b : Box) (ts : Terms) → IsBox root → Inside b root → AreProper ts
    → (truth reading root b (AllDifferent ts) ≡ True)
    ↔ ((all_marks (marks reading root b ts) ≡ Always) × (always_differ (intervals reading root b ts) ≡ true))

-- `cumulative` is False exactly where an operand is Never defined, a length or a demand is surely negative, or there is a peak at any time
abbrev pub FalseByPeaks : Type 0
FalseByPeaks =
    (reading : Reading) (root b : Box) (ts : Tasks) (capacity : Term)
    → (truth reading root b (Cumulative ts capacity) ≡ False)
    ↔ ((both (task_mark reading root b ts) (mark reading root b capacity) ≡ Never)
    ⊎ ((some_negative (task_ends reading root b ts) ≡ true) ⊎ HasPeak (task_ends reading root b ts) (interval reading root b capacity)))

-- and True, over each box inside the root, exactly where all operands are Always defined, no length and no demand may be negative, and the
-- capacity is enough at all times
abbrev pub TrueWhereEnough : Type 0
TrueWhereEnough =
    (reading : Reading) (root b : Box) (ts : Tasks) (capacity : Term) → IsBox root → Inside b root → AreProperTasks ts → IsProper capacity
    → (truth reading root b (Cumulative ts capacity) ≡ True)
    ↔ ((both (task_mark reading root b ts) (mark reading root b capacity) ≡ Always)
    × ((all_sound (task_ends reading root b ts) ≡ true) × IsEnough (task_ends reading root b ts) (interval reading root b capacity)))
