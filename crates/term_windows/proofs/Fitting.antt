-- The room that is left under a capacity, and what is told of tasks by their parts.
use Rattle.std.proofs.Common.{◌≡◌, ℤ, pos, ◌+ℤ◌, ◌-ℤ◌, ◌≤ℤ◌, ◌<ℤ◌, int_lt, int_le, Bool, true, false, ◌&&◌, ◌||◌, List, [], ◌∷◌, map, arith, ap, sym, ◌∙◌}
use Rattle.std.proofs.lemmas.Int.{ints}
use Rattle.std.proofs.lemmas.Bool.{and_left, or_left}
use Rattle.sopl_base.proofs.Tests.{le_test, le_untest, lt_test, lt_untest}
use Rattle.sopl_base.proofs.Booleans.{and_true}
use Rattle.term_language.specs.Ends.{Ends}
use Rattle.term_language.specs.Globals.{TaskEnds, total, least_asked, most_asked, is_overfull, never_fit, is_enough, always_fit}
use Rattle.term_crowds.specs.Crowds.{DemandsOrdered, some_negative, all_sound}
use Rattle.term_crowds.proofs.Times.{least_total, most_total}
use Rattle.term_language.proofs.Tasks.{SoundEnds}
use Rattle.term_windows.specs.Tasks.{all_enough, some_overfull}
use Rattle.term_windows.proofs.Steps.{or_false}

-- what is left of the capacity, and of the tasks
pub record HasRoom (ask : TaskEnds → ℤ) (capacity room : ℤ) (left all : List TaskEnds) : Type 0 where
  pub some : pos 0 ≤ℤ room
  pub rest : room -ℤ total (map ask left) ≡ capacity -ℤ total (map ask all)

pub first_room : (ask : TaskEnds → ℤ) (capacity room : ℤ) (all : List TaskEnds) → room ≡ capacity → pos 0 ≤ℤ capacity → HasRoom ask capacity room all all
first_room ask capacity room all is some = record { some = omega (arith, ints, is, some); rest = ap (λ z. z -ℤ total (map ask all)) is }

pub room_step : (ask : TaskEnds → ℤ) (capacity room next asked : ℤ) (left later all : List TaskEnds) (t : TaskEnds) → HasRoom ask capacity room left all → left ≡ t ∷ later → asked ≡ ask t
    → asked ≤ℤ room
    → next ≡ room -ℤ asked → HasRoom ask capacity next later all
room_step ask capacity room next asked left later all t has split is fits less =
    let whole : total (map ask left) ≡ ask t +ℤ total (map ask later) = ap (λ ts. total (map ask ts)) split in
    record { some = omega (arith, ints, fits, less); rest = omega (arith, ints, has.rest, whole, is, less) }

-- a task that asks for more than is left
more_than : (ask : TaskEnds → ℤ) (capacity room asked : ℤ) (left later all : List TaskEnds) (t : TaskEnds) → HasRoom ask capacity room left all → left ≡ t ∷ later → asked ≡ ask t → room <ℤ asked
    → pos 0 ≤ℤ total (map ask later) → capacity <ℤ total (map ask all)
more_than ask capacity room asked left later all t has split is more rest =
    let whole : total (map ask left) ≡ ask t +ℤ total (map ask later) = ap (λ ts. total (map ask ts)) split in
    omega (arith, ints, has.rest, whole, is, more, rest)

-- surely
pub no_room : (capacity : Ends) (time room asked : ℤ) (left later all : List TaskEnds) (t : TaskEnds) → HasRoom (least_asked time) capacity.high room left all → left ≡ t ∷ later
    → asked ≡ least_asked time t → room <ℤ asked → is_overfull all capacity time ≡ true
no_room capacity time room asked left later all t has split is more =
    lt_test capacity.high (total (map (least_asked time) all))
    (more_than (least_asked time) capacity.high room asked left later all t has split is more (least_total time later))

pub room_left : (capacity : Ends) (time room : ℤ) (left all : List TaskEnds) → left ≡ [] → HasRoom (least_asked time) capacity.high room left all → is_overfull all capacity time ≡ false
room_left capacity time room left all past has =
    let none : total (map (least_asked time) left) ≡ pos 0 = ap (λ ts. total (map (least_asked time) ts)) past in
    lt_untest capacity.high (total (map (least_asked time) all)) (omega (arith, ints, has.some, has.rest, none))

-- perhaps, where no demand may be negative
pub no_most : (capacity : Ends) (time room asked : ℤ) (left later all : List TaskEnds) (t : TaskEnds) → DemandsOrdered later → SoundEnds later → HasRoom (most_asked time) capacity.low room left all
    → left ≡ t ∷ later → asked ≡ most_asked time t → room <ℤ asked → is_enough all capacity time ≡ false
no_most capacity time room asked left later all t ordered sound has split is more =
    le_untest (total (map (most_asked time) all)) capacity.low
    (more_than (most_asked time) capacity.low room asked left later all t has split is more (most_total time later ordered sound))

pub most_left : (capacity : Ends) (time room : ℤ) (left all : List TaskEnds) → left ≡ [] → HasRoom (most_asked time) capacity.low room left all → is_enough all capacity time ≡ true
most_left capacity time room left all past has =
    let none : total (map (most_asked time) left) ≡ pos 0 = ap (λ ts. total (map (most_asked time) ts)) past in
    le_test (total (map (most_asked time) all)) capacity.low (omega (arith, ints, has.some, has.rest, none))

-- what is told by the parts
pub never_by_negative : (ts : List TaskEnds) (capacity : Ends) (t : Bool) → t ≡ some_negative ts → t ≡ true → never_fit ts capacity ≡ true
never_by_negative ts capacity t told met = or_left (some_negative ts) (int_lt capacity.high (pos 0) || some_overfull ts capacity ts) (sym told ∙ met)

pub never_by_capacity : (ts : List TaskEnds) (capacity : Ends) (t : Bool) → t ≡ some_negative ts → t ≡ false → capacity.high <ℤ pos 0 → never_fit ts capacity ≡ true
never_by_capacity ts capacity t told unmet low =
    or_false (some_negative ts) (int_lt capacity.high (pos 0) || some_overfull ts capacity ts) (sym told ∙ unmet)
    ∙ or_left (int_lt capacity.high (pos 0)) (some_overfull ts capacity ts) (lt_test capacity.high (pos 0) low)

pub never_by_peak : (ts : List TaskEnds) (capacity : Ends) (t r : Bool) → t ≡ some_negative ts → t ≡ false → pos 0 ≤ℤ capacity.high → r ≡ some_overfull ts capacity ts → r ≡ never_fit ts capacity
never_by_peak ts capacity t r told unmet high is =
    is ∙ sym (or_false (some_negative ts) (int_lt capacity.high (pos 0) || some_overfull ts capacity ts) (sym told ∙ unmet)
    ∙ or_false (int_lt capacity.high (pos 0)) (some_overfull ts capacity ts) (lt_untest capacity.high (pos 0) high))

pub unless_sound : (ts : List TaskEnds) (capacity : Ends) (t : Bool) → t ≡ all_sound ts → t ≡ false → always_fit ts capacity ≡ false
unless_sound ts capacity t told unmet = and_left (all_sound ts) (int_le (pos 0) capacity.low && all_enough ts capacity ts) (sym told ∙ unmet)

pub unless_room : (ts : List TaskEnds) (capacity : Ends) (t : Bool) → t ≡ all_sound ts → t ≡ true → capacity.low <ℤ pos 0 → always_fit ts capacity ≡ false
unless_room ts capacity t told met low =
    and_true (all_sound ts) (int_le (pos 0) capacity.low && all_enough ts capacity ts) (sym told ∙ met)
    ∙ and_left (int_le (pos 0) capacity.low) (all_enough ts capacity ts) (le_untest (pos 0) capacity.low low)

pub always_by_all : (ts : List TaskEnds) (capacity : Ends) (t r : Bool) → t ≡ all_sound ts → t ≡ true → pos 0 ≤ℤ capacity.low → r ≡ all_enough ts capacity ts → r ≡ always_fit ts capacity
always_by_all ts capacity t r told met high is =
    is ∙ sym (and_true (all_sound ts) (int_le (pos 0) capacity.low && all_enough ts capacity ts) (sym told ∙ met)
    ∙ and_true (int_le (pos 0) capacity.low) (all_enough ts capacity ts) (le_test (pos 0) capacity.low high))
