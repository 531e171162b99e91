-- Crowds of intervals, windows that have as many intervals as numbers, and the times of tasks.
use Rattle.std.specs.Prelude.{◌≡◌, ℕ, zero, suc, ◌-◌, nat_lt, ℤ, pos, ◌+ℤ◌, ◌-ℤ◌, ◌≤ℤ◌, ◌<ℤ◌, int_lt, int_le, Bool, true, false, ◌&&◌, ◌||◌, List, [], ◌∷◌, map, length}
use Rattle.std.specs.List.{filter, list_all, list_any}
use Rattle.term_language.specs.Ends.{Ends, exactly}
use Rattle.term_language.specs.Globals.{is_inside, are_crowded, TaskEnds, total, least_asked, most_asked}

-- no interval of a list is empty
abbrev pub AllOrdered : List Ends → Type 0
AllOrdered [] = Unit {0}
AllOrdered (e ∷ es) = (e.low ≤ℤ e.high) × AllOrdered es

-- how many intervals lie between two numbers
abbrev pub inside_count : ℤ → ℤ → List Ends → ℕ
inside_count a b es = length (filter (is_inside a b) es)

-- a crowd: more intervals lie between two numbers than there are numbers
pub record HasCrowd (es : List Ends) : Type 0 where
  pub low : ℤ
  pub high : ℤ
  pub ordered : low ≤ℤ high
  pub more : (high -ℤ low +ℤ pos 1) <ℤ pos (inside_count low high es)

-- from this width on no window that begins at a number is crowded
pub record NoneCrowded (es : List Ends) (a : ℤ) (width : ℕ) : Type 0 where
  pub each : (b : ℤ) → (a +ℤ pos width) ≤ℤ b → are_crowded es a b ≡ false

-- the search for a crowd from a number on, in so many steps: a window with more intervals than numbers is one; else the next window to
-- look at has one number fewer than this one has intervals
abbrev pub is_found : ℕ → List Ends → ℤ → ℕ → Bool
is_found zero es a width = false
is_found (suc steps) es a zero = false
is_found (suc steps) es a (suc n) =
    nat_lt (suc n) (inside_count a (a +ℤ pos n) es) || is_found steps es a (inside_count a (a +ℤ pos n) es - 1)

-- from each lower end, first in a window of as many numbers as there are intervals
abbrev pub some_found : List Ends → Bool
some_found es = list_any (λ (x : Ends). is_found (length es) es x.low (length es)) es

-- a list with one interval in the midst
abbrev pub among : List Ends → Ends → List Ends → List Ends
among [] e after = e ∷ after
among (x ∷ before) e after = x ∷ among before e after

-- each end of an interval alone
abbrev pub at_low : Ends → Ends
at_low e = exactly e.low

abbrev pub at_high : Ends → Ends
at_high e = exactly e.high

-- a tight window: at least as many intervals lie between two numbers as there are numbers
pub record IsTight (es : List Ends) (a b : ℤ) : Type 0 where
  pub ordered : a ≤ℤ b
  pub full : (b -ℤ a +ℤ pos 1) ≤ℤ pos (inside_count a b es)

-- no tight window has a smaller interval in it and not the larger one
pub record IsClear (es : List Ends) (larger smaller : Ends) : Type 0 where
  pub each : (a b : ℤ) → IsTight es a b → is_inside a b smaller ≡ true → is_inside a b larger ≡ true

-- where an end of an interval lies between two numbers, all of it does
pub record HoldsWhole (a b : ℤ) (e : Ends) : Type 0 where
  pub low : is_inside a b (at_low e) ≡ true → is_inside a b e ≡ true
  pub high : is_inside a b (at_high e) ≡ true → is_inside a b e ≡ true

-- so for several intervals
abbrev pub HoldWhole : ℤ → ℤ → List Ends → Type 0
HoldWhole a b [] = Unit {0}
HoldWhole a b (e ∷ es) = HoldsWhole a b e × HoldWhole a b es

-- in each tight window; in each that begins at a number and has more numbers than are said; and in each that begins at one of several lower ends
pub record AreWhole (es : List Ends) : Type 0 where
  pub each : (a b : ℤ) → IsTight es a b → HoldWhole a b es

pub record AreWholeFrom (es : List Ends) (a : ℤ) (width : ℕ) : Type 0 where
  pub each : (b : ℤ) → (a +ℤ pos width) ≤ℤ b → IsTight es a b → HoldWhole a b es

abbrev pub LowsWhole : List Ends → List Ends → Type 0
LowsWhole all [] = Unit {0}
LowsWhole all (x ∷ xs) = AreWholeFrom all x.low 0 × LowsWhole all xs

-- no interval of a task is empty
abbrev pub TasksOrdered : List TaskEnds → Type 0
TasksOrdered [] = Unit {0}
TasksOrdered (t ∷ ts) =
    (t.start.low ≤ℤ t.start.high) × ((t.duration.low ≤ℤ t.duration.high) × ((t.demand.low ≤ℤ t.demand.high) × TasksOrdered ts))

-- nor one of a demand
abbrev pub DemandsOrdered : List TaskEnds → Type 0
DemandsOrdered [] = Unit {0}
DemandsOrdered (t ∷ ts) = (t.demand.low ≤ℤ t.demand.high) × DemandsOrdered ts

-- a length or a demand is surely negative
abbrev pub some_negative : List TaskEnds → Bool
some_negative ts = list_any (λ (t : TaskEnds). int_lt t.duration.high (pos 0) || int_lt t.demand.high (pos 0)) ts

-- no length and no demand may be negative
abbrev pub all_sound : List TaskEnds → Bool
all_sound ts = list_all (λ (t : TaskEnds). int_le (pos 0) t.duration.low && int_le (pos 0) t.demand.low) ts

-- a peak: at some time more is surely asked for than the greatest capacity
pub record HasPeak (ts : List TaskEnds) (capacity : Ends) : Type 0 where
  pub time : ℤ
  pub over : capacity.high <ℤ total (map (least_asked time) ts)

-- at each time the least capacity is enough for all that may be asked for
pub record IsEnough (ts : List TaskEnds) (capacity : Ends) : Type 0 where
  pub each : (time : ℤ) → total (map (most_asked time) ts) ≤ℤ capacity.low
