-- Tasks that fit at each start fit at each time.
use Rattle.std.proofs.Common.{◌≡◌, ◌⊎◌, inl, inr, ℤ, pos, ◌+ℤ◌, ◌-ℤ◌, ◌≤ℤ◌, ◌<ℤ◌, Bool, true, false, ◌&&◌, List, [], ◌∷◌, arith, refl, sym, ap, subst, ◌∙◌, true≢false}
use Rattle.std.proofs.lemmas.Int.{ints}
use Rattle.std.proofs.lemmas.Bool.{and_parts, and_from}
use Rattle.std.specs.Prelude.{int_le, int_lt, if◌then◌else◌}
use Rattle.std.specs.Int.{int_min}
use Rattle.std.specs.List.{list_all}
use Rattle.sopl_base.proofs.Tests.{le_test, le_tested, lt_test, lt_tested}
use Rattle.sopl_ast.specs.Numbers.{Task, runs, asked, demanded, is_sound, all_fit, are_within}
use Rattle.lang_laws.specs.Laws.{FitAtEachTime}

-- A task at two times.

-- when a task runs
runs_when : (t : ℤ) (x : Task) → runs t x ≡ true → (x.start ≤ℤ t) × (t <ℤ (x.start +ℤ x.duration))
runs_when t x is =
    let parts : (int_le x.start t ≡ true) × (int_lt t (x.start +ℤ x.duration) ≡ true) = and_parts (int_le x.start t) (int_lt t (x.start +ℤ x.duration)) is in
    (le_tested x.start t parts.0, lt_tested t (x.start +ℤ x.duration) parts.1)

runs_then : (t : ℤ) (x : Task) → x.start ≤ℤ t → t <ℤ (x.start +ℤ x.duration) → runs t x ≡ true
runs_then t x from until =
    and_from (int_le x.start t) (int_lt t (x.start +ℤ x.duration)) (le_test x.start t from) (lt_test t (x.start +ℤ x.duration) until)

-- a task that runs later, and has started by an earlier time, runs then
runs_before : (s t : ℤ) (x : Task) → s ≤ℤ t → x.start ≤ℤ s → runs t x ≡ true → runs s x ≡ true
runs_before s t x order started is =
    let until : t <ℤ (x.start +ℤ x.duration) = (runs_when t x is).1 in
    runs_then s x started (grind (arith, ints))

-- what a sound task asks for is at least 0
asked_least : (s : ℤ) (x : Task) → pos 0 ≤ℤ x.demand → pos 0 ≤ℤ asked s x
asked_least s x sound = by_run (runs s x)
  where
    by_run : (b : Bool) → pos 0 ≤ℤ (if b then x.demand else pos 0)
    by_run true = sound
    by_run false = omega (arith, ints)

-- what a sound task asks for at a time is at most what it asks for at an earlier time by which it has started, if it runs at all
asked_before : (s t : ℤ) (x : Task) → pos 0 ≤ℤ x.demand → s ≤ℤ t → (runs t x ≡ true → x.start ≤ℤ s) → asked t x ≤ℤ asked s x
asked_before s t x sound order started = by_run (runs t x) refl
  where
    by_run : (b : Bool) → runs t x ≡ b → (if b then x.demand else pos 0) ≤ℤ asked s x
    by_run true is =
        subst (λ b. x.demand ≤ℤ (if b then x.demand else pos 0)) (sym (runs_before s t x order (started is) is)) (omega (arith, ints))
    by_run false is = asked_least s x sound

-- Tasks.

-- a task is one of these
In : Task → List Task → Type 0
In u [] = ⊥
In u (x ∷ xs) = (u ≡ x) ⊎ In u xs

-- no task runs at a time
Idle : ℤ → List Task → Type 0
Idle t [] = Unit {0}
Idle t (x ∷ xs) = (runs t x ≡ false) × Idle t xs

-- the tasks that run at a time have started by another
Started : ℤ → ℤ → List Task → Type 0
Started s t [] = Unit {0}
Started s t (x ∷ xs) = (runs t x ≡ true → x.start ≤ℤ s) × Started s t xs

idle_started : (s t : ℤ) (xs : List Task) → Idle t xs → Started s t xs
unfolding Idle Started
idle_started s t [] idle = tt
idle_started s t (x ∷ xs) idle = (λ is. absurd (true≢false (sym is ∙ idle.0)), idle_started s t xs idle.1)

started_later : (r s t : ℤ) (xs : List Task) → r ≤ℤ s → Started r t xs → Started s t xs
unfolding Started
started_later r s t [] order started = tt
started_later r s t (x ∷ xs) order started = (λ is. let first : x.start ≤ℤ r = started.0 is in omega (arith, ints), started_later r s t xs order started.1)

-- of the tasks that run at a time, one that starts last
record Last (t : ℤ) (xs : List Task) : Type 0 where
  task : Task
  among : In task xs
  runs_now : runs t task ≡ true
  after_all : Started task.start t xs

last_of : (t : ℤ) (xs : List Task) → Idle t xs ⊎ Last t xs
unfolding Idle Started In
last_of t [] = inl tt
last_of t (x ∷ xs) = by_run (runs t x) refl (last_of t xs)
  where
    by_start : (l : Last t xs) (b : Bool) → int_le x.start l.task.start ≡ b → runs t x ≡ true → Last t (x ∷ xs)
    by_start l true first is =
        record { task = l.task; among = inr l.among; runs_now = l.runs_now; after_all = (λ now. le_tested x.start l.task.start first, l.after_all) }
    by_start l false first is =
        let order : l.task.start ≤ℤ x.start = grind (arith, ints) in
        record { task = x; among = inl refl; runs_now = is; after_all = (λ now. omega (arith, ints), started_later l.task.start x.start t xs order l.after_all) }

    by_run : (b : Bool) → runs t x ≡ b → Idle t xs ⊎ Last t xs → Idle t (x ∷ xs) ⊎ Last t (x ∷ xs)
    by_run false is (inl idle) = inl (is, idle)
    by_run false is (inr l) =
        inr (record { task = l.task; among = inr l.among; runs_now = l.runs_now; after_all = (λ now. absurd (true≢false (sym now ∙ is)), l.after_all) })
    by_run true is (inl idle) =
        inr (record { task = x; among = inl refl; runs_now = is; after_all = (λ now. omega (arith, ints), idle_started x.start t xs idle) })
    by_run true is (inr l) = inr (by_start l (int_le x.start l.task.start) refl is)

-- where no task runs nothing is asked for
idle_asks : (t : ℤ) (xs : List Task) → Idle t xs → demanded t xs ≡ pos 0
unfolding Idle
idle_asks t [] idle = refl
idle_asks t (x ∷ xs) idle =
    ap (λ b. (if b then x.demand else pos 0) +ℤ demanded t xs) idle.0 ∙ (ap (λ z. pos 0 +ℤ z) (idle_asks t xs idle.1) ∙ refl)

sum_order : (a b c d : ℤ) → a ≤ℤ c → b ≤ℤ d → (a +ℤ b) ≤ℤ (c +ℤ d)
sum_order a b c d x y = omega (arith, ints)

-- sound tasks ask for at most what they ask for at an earlier time by which those that run have started
demanded_before : (s t : ℤ) (xs : List Task) → list_all is_sound xs ≡ true → s ≤ℤ t → Started s t xs → demanded t xs ≤ℤ demanded s xs
unfolding Started
demanded_before s t [] sound order started = omega (arith, ints)
demanded_before s t (x ∷ xs) sound order started =
    let parts : (is_sound x ≡ true) × (list_all is_sound xs ≡ true) = and_parts (is_sound x) (list_all is_sound xs) sound in
    let demand : pos 0 ≤ℤ x.demand = le_tested (pos 0) x.demand (and_parts (int_le (pos 0) x.duration) (int_le (pos 0) x.demand) parts.0).1 in
    sum_order (asked t x) (demanded t xs) (asked s x) (demanded s xs) (asked_before s t x demand order started.0)
    (demanded_before s t xs parts.1 order started.1)

-- a test that all pass
passed : (p : Task → Bool) (u : Task) (xs : List Task) → list_all p xs ≡ true → In u xs → p u ≡ true
unfolding In
passed p u [] all among = absurd among
passed p u (x ∷ xs) all (inl is) = ap p is ∙ (and_parts (p x) (list_all p xs) all).0
passed p u (x ∷ xs) all (inr among) = passed p u xs (and_parts (p x) (list_all p xs) all).1 among

all_pass : (p : Task → Bool) → ((u : Task) → p u ≡ true) → (xs : List Task) → list_all p xs ≡ true
all_pass p each [] = refl
all_pass p each (x ∷ xs) = and_from (p x) (list_all p xs) (each x) (all_pass p each xs)

-- a time before all tasks
early : List Task → ℤ
early [] = pos 0
early (x ∷ xs) = int_min (x.start -ℤ pos 1) (early xs)

idle_early : (t : ℤ) (xs : List Task) → t ≤ℤ early xs → Idle t xs
unfolding Idle early
idle_early t [] order = tt
idle_early t (x ∷ xs) order = (not_yet (runs t x) refl, idle_early t xs (lesser (early xs) order))
  where
    lesser : (e : ℤ) → t ≤ℤ int_min (x.start -ℤ pos 1) e → t ≤ℤ e
    lesser e is = grind (arith, ints)

    first : (e : ℤ) → t ≤ℤ int_min (x.start -ℤ pos 1) e → t <ℤ x.start
    first e is = grind (arith, ints)

    not_yet : (b : Bool) → runs t x ≡ b → b ≡ false
    not_yet false is = refl
    not_yet true is =
        let from : x.start ≤ℤ t = (runs_when t x is).0 in
        let before : t <ℤ x.start = first (early xs) order in
        absurd (omega (arith, ints))

-- The law.

fits_at : (capacity : ℤ) (xs : List Task) → are_within capacity xs ≡ true → (t : ℤ) → demanded t xs ≤ℤ capacity
fits_at capacity xs within t =
    let parts : (int_le (pos 0) capacity ≡ true) × ((list_all is_sound xs && all_fit capacity xs) ≡ true) =
    and_parts (int_le (pos 0) capacity) (list_all is_sound xs && all_fit capacity xs) within in
    let tests : (list_all is_sound xs ≡ true) × (all_fit capacity xs ≡ true) = and_parts (list_all is_sound xs) (all_fit capacity xs) parts.1 in
    by_last (le_tested (pos 0) capacity parts.0) tests.0 tests.1 (last_of t xs)
  where
    by_last : pos 0 ≤ℤ capacity → list_all is_sound xs ≡ true → all_fit capacity xs ≡ true → Idle t xs ⊎ Last t xs → demanded t xs ≤ℤ capacity
    by_last least sound fit (inl idle) = subst (λ z. z ≤ℤ capacity) (sym (idle_asks t xs idle)) least
    by_last least sound fit (inr l) =
        let here : demanded l.task.start xs ≤ℤ capacity =
        le_tested (demanded l.task.start xs) capacity (passed (λ (task : Task). int_le (demanded task.start xs) capacity) l.task xs fit l.among) in
        let before : demanded t xs ≤ℤ demanded l.task.start xs = demanded_before l.task.start t xs sound (runs_when t l.task l.runs_now).0 l.after_all in
        omega (arith, ints)

fits_from : (capacity : ℤ) (xs : List Task) → list_all is_sound xs ≡ true → ((t : ℤ) → demanded t xs ≤ℤ capacity) → are_within capacity xs ≡ true
fits_from capacity xs sound each =
    let least : pos 0 ≤ℤ capacity =
    subst (λ z. z ≤ℤ capacity) (idle_asks (early xs) xs (idle_early (early xs) xs (omega (arith, ints)))) (each (early xs)) in
    and_from (int_le (pos 0) capacity) (list_all is_sound xs && all_fit capacity xs) (le_test (pos 0) capacity least)
    (and_from (list_all is_sound xs) (all_fit capacity xs) sound
    (all_pass (λ (task : Task). int_le (demanded task.start xs) capacity) (λ task. le_test (demanded task.start xs) capacity (each task.start)) xs))

sound_from : (capacity : ℤ) (xs : List Task) → are_within capacity xs ≡ true → list_all is_sound xs ≡ true
sound_from capacity xs within =
    (and_parts (list_all is_sound xs) (all_fit capacity xs)
    (and_parts (int_le (pos 0) capacity) (list_all is_sound xs && all_fit capacity xs) within).1).0

pub fit_at_each_time : FitAtEachTime
fit_at_each_time capacity xs =
    (λ within. (sound_from capacity xs within, fits_at capacity xs within), λ given. fits_from capacity xs given.0 given.1)
