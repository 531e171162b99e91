-- The steps of loops for slices of tasks.
use Rattle.std.proofs.Common.{◌≡◌, ℕ, ◌+◌, ◌<◌, ◌≤◌, ℤ, pos, ◌-ℤ◌, ◌≤ℤ◌, ◌<ℤ◌, int_lt, int_le, Bool, true, false, ◌&&◌, ◌||◌, List, [], ◌∷◌, length, get_or, drop, ap, sym, subst, ◌∙◌}
use Rattle.std.specs.List.{list_all}
use Rattle.std.proofs.lemmas.List.{at_drop_more, at_drop_all, get_or_default}
use Rattle.sopl_base.proofs.Tests.{le_tested}
use Rattle.term_language.specs.Ends as rule
use Rattle.term_language.specs.Globals.{TaskEnds, least_asked, most_asked, is_overfull, is_enough}
use Rattle.term_language.specs.declared.answers.Defined.TheVariants.{Never}
use Rattle.term_language.proofs.FormValues.{and_first, and_second}
use Rattle.term_language.proofs.Tasks.{SoundEnds, sound_ends}
use Rattle.term_crowds.specs.Crowds.{DemandsOrdered, some_negative, all_sound}
use Rattle.term_crowds.proofs.Times.{most_nonneg}
use Rattle.term_windows.specs.declared.tasks.TaskRange.{TaskRange}
use Rattle.term_windows.specs.Tasks.{task_ends_of, task_spans, some_overfull, all_enough}
use Rattle.term_windows.proofs.Steps.{next_any, this_any, next_each, this_fails}
use Rattle.term_windows.proofs.Fitting as fits
use Rattle.term_windows.proofs.Fitting.{HasRoom}

split : (xs : List TaskRange) (i : ℕ) (x : TaskRange) → i < length xs → x ≡ get_or xs i x → task_spans (drop i xs) ≡ task_ends_of x ∷ task_spans (drop (i + 1) xs)
split xs i x below at = at_drop_more task_spans xs i x below ∙ ap (λ (y : TaskRange). task_ends_of y ∷ task_spans (drop (i + 1) xs)) (sym at)

gone : (xs : List TaskRange) (i : ℕ) → length xs ≤ i → task_spans (drop i xs) ≡ []
gone xs i past = at_drop_all task_spans xs i past

-- the task at a place of the slice
abbrev none : TaskRange
none = record {
  start = record { low = pos 0; high = pos 0 };
  duration = record { low = pos 0; high = pos 0 };
  demand = record { low = pos 0; high = pos 0 };
  mark = Never;
}

abbrev pub task_at : List TaskRange → ℕ → TaskRange
task_at xs i = get_or xs i none

pub is_there : (xs : List TaskRange) (i : ℕ) → i < length xs → task_at xs i ≡ get_or xs i (task_at xs i)
is_there xs i below = get_or_default xs i none (task_at xs i) below

-- a part that is surely negative
pub next_negative : (xs : List TaskRange) (i : ℕ) (x : TaskRange) (t : Bool) → i < length xs → x ≡ get_or xs i x → t ≡ (int_lt x.duration.high (pos 0) || int_lt x.demand.high (pos 0)) → t ≡ false
    → some_negative (task_spans (drop i xs)) ≡ some_negative (task_spans (drop (i + 1) xs))
next_negative xs i x t below at told unmet =
    next_any (λ (e : TaskEnds). int_lt e.duration.high (pos 0) || int_lt e.demand.high (pos 0)) (task_spans (drop i xs)) (task_spans (drop (i + 1) xs)) (task_ends_of x) (split xs i x below at)
    (sym told ∙ unmet)

pub this_negative : (xs : List TaskRange) (i : ℕ) (x : TaskRange) (t : Bool) → i < length xs → x ≡ get_or xs i x → t ≡ (int_lt x.duration.high (pos 0) || int_lt x.demand.high (pos 0)) → t ≡ true
    → some_negative (task_spans (drop i xs)) ≡ true
this_negative xs i x t below at told met =
    this_any (λ (e : TaskEnds). int_lt e.duration.high (pos 0) || int_lt e.demand.high (pos 0)) (task_spans (drop i xs)) (task_spans (drop (i + 1) xs)) (task_ends_of x) (split xs i x below at)
    (sym told ∙ met)

pub none_negative : (xs : List TaskRange) (i : ℕ) → length xs ≤ i → some_negative (task_spans (drop i xs)) ≡ false
none_negative xs i past = ap some_negative (gone xs i past)

-- a time at which the capacity is surely passed
pub next_peak : (all : List TaskEnds) (capacity : rule.Ends) (xs : List TaskRange) (i : ℕ) (x : TaskRange) (t : Bool) → i < length xs → x ≡ get_or xs i x
    → t ≡ is_overfull all capacity x.start.high → t ≡ false
    → some_overfull all capacity (task_spans (drop i xs)) ≡ some_overfull all capacity (task_spans (drop (i + 1) xs))
next_peak all capacity xs i x t below at told unmet =
    next_any (λ (e : TaskEnds). is_overfull all capacity e.start.high) (task_spans (drop i xs)) (task_spans (drop (i + 1) xs)) (task_ends_of x) (split xs i x below at) (sym told ∙ unmet)

pub this_peak : (all : List TaskEnds) (capacity : rule.Ends) (xs : List TaskRange) (i : ℕ) (x : TaskRange) (t : Bool) → i < length xs → x ≡ get_or xs i x
    → t ≡ is_overfull all capacity x.start.high → t ≡ true
    → some_overfull all capacity (task_spans (drop i xs)) ≡ true
this_peak all capacity xs i x t below at told met =
    this_any (λ (e : TaskEnds). is_overfull all capacity e.start.high) (task_spans (drop i xs)) (task_spans (drop (i + 1) xs)) (task_ends_of x) (split xs i x below at) (sym told ∙ met)

pub none_peak : (all : List TaskEnds) (capacity : rule.Ends) (xs : List TaskRange) (i : ℕ) → length xs ≤ i → some_overfull all capacity (task_spans (drop i xs)) ≡ false
none_peak all capacity xs i past = ap (some_overfull all capacity) (gone xs i past)

-- the room that is left at a time
pub next_room : (capacity time room next asked : ℤ) (xs : List TaskRange) (i : ℕ) (x : TaskRange) → i < length xs → x ≡ get_or xs i x → asked ≡ least_asked time (task_ends_of x) → asked ≤ℤ room
    → next ≡ room -ℤ asked → HasRoom (least_asked time) capacity room (task_spans (drop i xs)) (task_spans xs) → HasRoom (least_asked time) capacity next (task_spans (drop (i + 1) xs)) (task_spans xs)
next_room capacity time room next asked xs i x below at told few less has =
    fits.room_step (least_asked time) capacity room next asked (task_spans (drop i xs)) (task_spans (drop (i + 1) xs)) (task_spans xs) (task_ends_of x) has (split xs i x below at) told few less

pub no_room : (capacity : rule.Ends) (time room asked : ℤ) (xs : List TaskRange) (i : ℕ) (x : TaskRange) → i < length xs → x ≡ get_or xs i x → asked ≡ least_asked time (task_ends_of x) → room <ℤ asked
    → HasRoom (least_asked time) capacity.high room (task_spans (drop i xs)) (task_spans xs) → is_overfull (task_spans xs) capacity time ≡ true
no_room capacity time room asked xs i x below at told more has =
    fits.no_room capacity time room asked (task_spans (drop i xs)) (task_spans (drop (i + 1) xs)) (task_spans xs) (task_ends_of x) has (split xs i x below at) told more

pub room_left : (capacity : rule.Ends) (time room : ℤ) (xs : List TaskRange) (i : ℕ) → length xs ≤ i → HasRoom (least_asked time) capacity.high room (task_spans (drop i xs)) (task_spans xs)
    → is_overfull (task_spans xs) capacity time ≡ false
room_left capacity time room xs i past has = fits.room_left capacity time room (task_spans (drop i xs)) (task_spans xs) (gone xs i past) has

-- a part that may be negative
pub next_sound : (xs : List TaskRange) (i : ℕ) (x : TaskRange) (t : Bool) → i < length xs → x ≡ get_or xs i x → t ≡ (int_le (pos 0) x.duration.low && int_le (pos 0) x.demand.low) → t ≡ true
    → all_sound (task_spans (drop i xs)) ≡ all_sound (task_spans (drop (i + 1) xs))
next_sound xs i x t below at told met =
    next_each (λ (e : TaskEnds). int_le (pos 0) e.duration.low && int_le (pos 0) e.demand.low) (task_spans (drop i xs)) (task_spans (drop (i + 1) xs)) (task_ends_of x) (split xs i x below at)
    (sym told ∙ met)

pub not_sound : (xs : List TaskRange) (i : ℕ) (x : TaskRange) (t : Bool) → i < length xs → x ≡ get_or xs i x → t ≡ (int_le (pos 0) x.duration.low && int_le (pos 0) x.demand.low) → t ≡ false
    → all_sound (task_spans (drop i xs)) ≡ false
not_sound xs i x t below at told unmet =
    this_fails (λ (e : TaskEnds). int_le (pos 0) e.duration.low && int_le (pos 0) e.demand.low) (task_spans (drop i xs)) (task_spans (drop (i + 1) xs)) (task_ends_of x) (split xs i x below at)
    (sym told ∙ unmet)

pub all_are_sound : (xs : List TaskRange) (i : ℕ) → length xs ≤ i → all_sound (task_spans (drop i xs)) ≡ true
all_are_sound xs i past = ap all_sound (gone xs i past)

-- the room that is surely left
pub record HasMost (capacity time room : ℤ) (left all : List TaskEnds) : Type 0 where
  pub rest : HasRoom (most_asked time) capacity room left all
  pub ordered : DemandsOrdered left
  pub sound : SoundEnds left

pub first_most : (capacity time room : ℤ) (all : List TaskEnds) → room ≡ capacity → pos 0 ≤ℤ capacity → DemandsOrdered all → all_sound all ≡ true → HasMost capacity time room all all
first_most capacity time room all is some ordered sound = record {
  rest = fits.first_room (most_asked time) capacity room all is some;
  ordered = ordered;
  sound = sound_ends all sound;
}

pub next_most : (capacity time room next asked : ℤ) (xs : List TaskRange) (i : ℕ) (x : TaskRange) → i < length xs → x ≡ get_or xs i x → asked ≡ most_asked time (task_ends_of x) → asked ≤ℤ room
    → next ≡ room -ℤ asked → HasMost capacity time room (task_spans (drop i xs)) (task_spans xs) → HasMost capacity time next (task_spans (drop (i + 1) xs)) (task_spans xs)
next_most capacity time room next asked xs i x below at told few less has =
    let is = split xs i x below at in
    record {
      rest = fits.room_step (most_asked time) capacity room next asked (task_spans (drop i xs)) (task_spans (drop (i + 1) xs)) (task_spans xs) (task_ends_of x) has.rest is told few less;
      ordered = (subst DemandsOrdered is has.ordered).1;
      sound = (subst SoundEnds is has.sound).2;
    }

pub most_asked_nonneg : (capacity time room asked : ℤ) (xs : List TaskRange) (i : ℕ) (x : TaskRange) → i < length xs → x ≡ get_or xs i x → asked ≡ most_asked time (task_ends_of x)
    → HasMost capacity time room (task_spans (drop i xs)) (task_spans xs) → pos 0 ≤ℤ asked
most_asked_nonneg capacity time room asked xs i x below at told has =
    let is = split xs i x below at in
    subst (λ z. pos 0 ≤ℤ z) (sym told) (most_nonneg time (task_ends_of x) (subst DemandsOrdered is has.ordered).0 (subst SoundEnds is has.sound).1)

pub no_most : (capacity : rule.Ends) (time room asked : ℤ) (xs : List TaskRange) (i : ℕ) (x : TaskRange) → i < length xs → x ≡ get_or xs i x → asked ≡ most_asked time (task_ends_of x) → room <ℤ asked
    → HasMost capacity.low time room (task_spans (drop i xs)) (task_spans xs) → is_enough (task_spans xs) capacity time ≡ false
no_most capacity time room asked xs i x below at told more has =
    let is = split xs i x below at in
    fits.no_most capacity time room asked (task_spans (drop i xs)) (task_spans (drop (i + 1) xs)) (task_spans xs) (task_ends_of x) (subst DemandsOrdered is has.ordered).1
    (subst SoundEnds is has.sound).2
    has.rest is told more

pub most_left : (capacity : rule.Ends) (time room : ℤ) (xs : List TaskRange) (i : ℕ) → length xs ≤ i → HasMost capacity.low time room (task_spans (drop i xs)) (task_spans xs)
    → is_enough (task_spans xs) capacity time ≡ true
most_left capacity time room xs i past has = fits.most_left capacity time room (task_spans (drop i xs)) (task_spans xs) (gone xs i past) has.rest

-- times at which the capacity is enough
pub next_enough : (all : List TaskEnds) (capacity : rule.Ends) (xs : List TaskRange) (i : ℕ) (x : TaskRange) (t : Bool) → i < length xs → x ≡ get_or xs i x
    → t ≡ is_enough all capacity x.start.low → t ≡ true
    → all_enough all capacity (task_spans (drop i xs)) ≡ all_enough all capacity (task_spans (drop (i + 1) xs))
next_enough all capacity xs i x t below at told met =
    next_each (λ (e : TaskEnds). is_enough all capacity e.start.low) (task_spans (drop i xs)) (task_spans (drop (i + 1) xs)) (task_ends_of x) (split xs i x below at) (sym told ∙ met)

pub not_enough : (all : List TaskEnds) (capacity : rule.Ends) (xs : List TaskRange) (i : ℕ) (x : TaskRange) (t : Bool) → i < length xs → x ≡ get_or xs i x
    → t ≡ is_enough all capacity x.start.low → t ≡ false
    → all_enough all capacity (task_spans (drop i xs)) ≡ false
not_enough all capacity xs i x t below at told unmet =
    this_fails (λ (e : TaskEnds). is_enough all capacity e.start.low) (task_spans (drop i xs)) (task_spans (drop (i + 1) xs)) (task_ends_of x) (split xs i x below at) (sym told ∙ unmet)

pub all_are_enough : (all : List TaskEnds) (capacity : rule.Ends) (xs : List TaskRange) (i : ℕ) → length xs ≤ i → all_enough all capacity (task_spans (drop i xs)) ≡ true
all_are_enough all capacity xs i past = ap (all_enough all capacity) (gone xs i past)

-- no interval of a demand is empty where that was tried of each
pub all_tried : (xs : List TaskRange) → list_all (λ (x : TaskRange). int_le x.demand.low x.demand.high) xs ≡ true → DemandsOrdered (task_spans xs)
all_tried [] all = tt
all_tried (x ∷ xs) all = (
  le_tested x.demand.low x.demand.high (and_first (int_le x.demand.low x.demand.high) (list_all (λ (x : TaskRange). int_le x.demand.low x.demand.high) xs) all),
  all_tried xs (and_second (int_le x.demand.low x.demand.high) (list_all (λ (x : TaskRange). int_le x.demand.low x.demand.high) xs) all),
)
