-- `allDifferent` and `cumulative` over intervals.
use Rattle.std.specs.Prelude.{nat_lt, ◌+◌, ℤ, pos, ◌+ℤ◌, int_lt, int_le, Bool, true, ◌&&◌, ◌||◌, List, [], ◌∷◌, map, length, if◌then◌else◌}
use Rattle.std.specs.List.{filter, list_all, list_any}
use Rattle.std.specs.Int.{int_gap, int_max}
use Rattle.term_language.specs.Ends.{Ends}

-- an interval lies between two numbers
abbrev pub is_inside : ℤ → ℤ → Ends → Bool
is_inside a b interval = int_le a interval.low && int_le interval.high b

-- more intervals lie between two numbers than there are numbers
abbrev pub are_crowded : List Ends → ℤ → ℤ → Bool
are_crowded intervals a b =
    int_le a b && nat_lt (int_gap a b + 1) (length (filter (is_inside a b) intervals))

-- some two numbers are too near for the intervals between them; lower and upper ends are numbers enough to look at
abbrev pub never_differ : List Ends → Bool
never_differ intervals =
    list_any (λ (x : Ends). list_any (λ (y : Ends). are_crowded intervals x.low y.high) intervals) intervals

-- two intervals have no number in common
abbrev pub are_apart : Ends → Ends → Bool
are_apart x y = int_lt x.high y.low || int_lt y.high x.low

-- no two intervals have one
abbrev pub always_differ : List Ends → Bool
always_differ [] = true
always_differ (x ∷ later) = list_all (are_apart x) later && always_differ later

-- a task: the intervals of its start, its length and its demand
pub record TaskEnds : Type 0 where
  pub start : Ends
  pub duration : Ends
  pub demand : Ends

-- the sum of whole numbers
abbrev pub total : List ℤ → ℤ
total [] = pos 0
total (x ∷ later) = x +ℤ total later

-- what a task surely asks for at a time, and what it may ask for
abbrev pub least_asked : ℤ → TaskEnds → ℤ
least_asked time t =
    if int_le t.start.high time && int_lt time (t.start.low +ℤ int_max t.duration.low (pos 0)) then int_max t.demand.low (pos 0) else pos 0

abbrev pub most_asked : ℤ → TaskEnds → ℤ
most_asked time t =
    if int_le t.start.low time && int_lt time (t.start.high +ℤ t.duration.high) then t.demand.high else pos 0

-- the capacity is surely passed at a time
abbrev pub is_overfull : List TaskEnds → Ends → ℤ → Bool
is_overfull tasks capacity time = int_lt capacity.high (total (map (least_asked time) tasks))

-- tasks surely do not fit: a length or a demand is surely negative, or the capacity is, or it is surely passed at some time; the
-- greatest starts are times enough to look at
abbrev pub never_fit : List TaskEnds → Ends → Bool
never_fit tasks capacity =
    list_any (λ (t : TaskEnds). int_lt t.duration.high (pos 0) || int_lt t.demand.high (pos 0)) tasks
    || (int_lt capacity.high (pos 0) || list_any (λ (t : TaskEnds). is_overfull tasks capacity t.start.high) tasks)

-- the capacity is surely enough at a time
abbrev pub is_enough : List TaskEnds → Ends → ℤ → Bool
is_enough tasks capacity time = int_le (total (map (most_asked time) tasks)) capacity.low

-- tasks surely fit: no length and no demand may be negative, nor the capacity, which is enough at all times; the least starts are times
-- enough to look at
abbrev pub always_fit : List TaskEnds → Ends → Bool
always_fit tasks capacity =
    list_all (λ (t : TaskEnds). int_le (pos 0) t.duration.low && int_le (pos 0) t.demand.low) tasks
    && (int_le (pos 0) capacity.low && list_all (λ (t : TaskEnds). is_enough tasks capacity t.start.low) tasks)
