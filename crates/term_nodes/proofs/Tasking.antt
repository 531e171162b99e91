-- Steps of the loops over tasks.
use Rattle.std.proofs.Common.{◌≡◌, ℕ, ◌+◌, ◌-◌, ◌<◌, ◌≤◌, zero, suc, ℤ, pos, ◌-ℤ◌, ◌≤ℤ◌, ◌<ℤ◌, int_lt, int_le, Bool}
use Rattle.std.proofs.Common.{true, false, ◌&&◌, ◌||◌, if◌then◌else◌, List, [], ◌∷◌, length, get_or, drop, arith, ap, sym, subst, ◌∙◌}
use Rattle.std.specs.List.{list_all, list_any}
use Rattle.std.proofs.lemmas.List.{at_drop_more, at_drop_all, get_or_default}
use Rattle.box_problem.specs.Box.{Box}
use Rattle.term_language.specs.Ends.{Ends}
use Rattle.term_language.specs.Globals.{TaskEnds, least_asked, most_asked, is_overfull, is_enough}
use Rattle.term_language.specs.Marks.{both, judged}
use Rattle.term_language.specs.Rules.{Reading, interval, mark, task_ends, task_mark}
use Rattle.term_language.specs.declared.answers.Defined.{Defined}
use Rattle.term_language.specs.declared.answers.Defined.TheVariants.{Always}
use Rattle.term_language.specs.declared.answers.Truth.TheVariants.{False, Unknown, True}
use Rattle.term_language.proofs.Marks.{both_grouped}
use Rattle.term_language.proofs.Sharpening.{intervals_narrow}
use Rattle.term_language.proofs.Tasks.{SoundEnds, sound_ends}
use Rattle.term_math.specs.Shown.{box_in, ends_of}
use Rattle.term_math.specs.declared.ends.Ends as own
use Rattle.term_crowds.specs.Crowds.{DemandsOrdered, all_sound, some_negative}
use Rattle.term_crowds.proofs.Times.{most_nonneg}
use Rattle.term_windows.specs.Tasks.{all_enough, some_overfull, task_ends_of}
use Rattle.term_windows.proofs.Fitting as rooms
use Rattle.term_windows.proofs.Fitting.{HasRoom}
use Rattle.term_windows.proofs.Steps as steps
use Rattle.term_nodes.specs.declared.evaluation.Evaluator.{Evaluator}
use Rattle.term_nodes.specs.declared.nodes.Task.{Task}
use Rattle.term_nodes.specs.Built.{TasksBelow}
use Rattle.term_nodes.specs.Seen.{reading_of, CanRead}
use Rattle.term_nodes.specs.Tasks.{mark_seen, task_seen}
use Rattle.term_nodes.specs.Things.{Thing, tasks_at, term_at, things}
use Rattle.term_nodes.proofs.Ready.{small_term}

-- the intervals of several tasks
abbrev pub rows : Reading → Box → Box → List Thing → List Task → List TaskEnds
rows reading root b all xs = task_ends reading root b (tasks_at all xs)

pub rows_drop : (reading : Reading) (root b : Box) (all : List Thing) (xs : List Task) (i : ℕ) (x : Task) → i < length xs → x ≡ get_or xs i x
    → rows reading root b all (drop i xs) ≡ task_seen reading root b all x ∷ rows reading root b all (drop (i + 1) xs)
rows_drop reading root b all xs i x below at =
    at_drop_more (λ ys. rows reading root b all ys) xs i x below
    ∙ ap (λ (y : Task). task_seen reading root b all y ∷ rows reading root b all (drop (i + 1) xs)) (sym at)

pub task_below : (limit : ℕ) (xs : List Task) (i : ℕ) (x : Task) → TasksBelow limit xs → i < length xs → x ≡ get_or xs i x → (x.start < limit) × ((x.duration < limit) × (x.demand < limit))
task_below limit [] i x below there at = absurd (omega (arith, there))
task_below limit (y ∷ ys) zero x below there at = subst (λ (t : Task). (t.start < limit) × ((t.duration < limit) × (t.demand < limit))) (sym at) below.0
task_below limit (y ∷ ys) (suc i) x below there at = task_below limit ys i x below.1 (omega (arith, there)) at

same_task : (s d m s1 d1 m1 : Ends) → s ≡ s1 → d ≡ d1 → m ≡ m1
    → (◌≡◌ {A = TaskEnds}) (record { start = s; duration = d; demand = m }) (record { start = s1; duration = d1; demand = m1 })
same_task s d m s1 d1 m1 p q r =
    ap (λ (x : Ends). record { start = x; duration = d; demand = m }) p
    ∙ ap (λ (x : Ends). record { start = s1; duration = x; demand = m }) q
    ∙ ap (λ (x : Ends). record { start = s1; duration = d1; demand = x }) r

pub task_made : (reading : Reading) (root b : Box) (all : List Thing) (x : Task) (s d m : own.Ends) → ends_of s ≡ interval reading root b (term_at all x.start) → ends_of d ≡ interval reading root b (term_at all x.duration)
    → ends_of m ≡ interval reading root b (term_at all x.demand) → (k : Defined) → task_ends_of (record { start = s; duration = d; demand = m; mark = k }) ≡ task_seen reading root b all x
task_made reading root b all x s d m p q r k = same_task (ends_of s) (ends_of d) (ends_of m) _ _ _ p q r

-- marks
pub next_task_mark : (reading : Reading) (root b : Box) (all : List Thing) (xs : List Task) (i : ℕ) (x : Task) → i < length xs → x ≡ get_or xs i x
    → task_mark reading root b (tasks_at all (drop i xs)) ≡ both (mark_seen reading root b all x) (task_mark reading root b (tasks_at all (drop (i + 1) xs)))
next_task_mark reading root b all xs i x below at =
    at_drop_more (λ ys. task_mark reading root b (tasks_at all ys)) xs i x below
    ∙ ap (λ (y : Task). both (mark reading root b (term_at all y.start))
    (both (mark reading root b (term_at all y.duration)) (both (mark reading root b (term_at all y.demand)) (task_mark reading root b (tasks_at all (drop (i + 1) xs)))))) (sym at)
    ∙ grouped (mark reading root b (term_at all x.start)) (mark reading root b (term_at all x.duration)) (mark reading root b (term_at all x.demand)) (task_mark reading root b (tasks_at all (drop (i + 1) xs)))
  where
    grouped : (s d m k : Defined) → both s (both d (both m k)) ≡ both (both s (both d m)) k
    grouped s d m k = ap (both s) (sym (both_grouped d m k)) ∙ sym (both_grouped s (both d m) k)

pub no_task_mark : (reading : Reading) (root b : Box) (all : List Thing) (xs : List Task) (i : ℕ) → length xs ≤ i → task_mark reading root b (tasks_at all (drop i xs)) ≡ Always
no_task_mark reading root b all xs i past = at_drop_all (λ ys. task_mark reading root b (tasks_at all ys)) xs i past

pub task_back : (limit : ℕ) (xs : List Task) (i : ℕ) (d : Task) → TasksBelow limit xs → 0 < i → i ≤ length xs
    → ((get_or xs (i - 1) d).start < limit) × (((get_or xs (i - 1) d).duration < limit) × ((get_or xs (i - 1) d).demand < limit))
task_back limit xs i d below positive most =
    let there : i - 1 < length xs = omega (arith, positive, most) in
    task_below limit xs (i - 1) (get_or xs (i - 1) d) below there (get_or_default xs (i - 1) d (get_or xs (i - 1) d) there)

pub mark_back : (reading : Reading) (root b : Box) (all : List Thing) (xs : List Task) (i : ℕ) (d : Task) (here so_far next : Defined) → 0 < i → i ≤ length xs → here ≡ mark_seen reading root b all (get_or xs (i - 1) d)
    → next ≡ both here so_far → so_far ≡ task_mark reading root b (tasks_at all (drop i xs)) → next ≡ task_mark reading root b (tasks_at all (drop (i - 1) xs))
mark_back reading root b all xs i d here so_far next positive most is made known =
    let there : i - 1 < length xs = omega (arith, positive, most) in
    let again : i - 1 + 1 ≡ i = omega (arith, positive) in
    let x : Task = get_or xs (i - 1) d in
    made ∙ ap (λ (m : Defined). both m so_far) is
    ∙ ap (both (mark_seen reading root b all x)) (known ∙ ap (λ (j : ℕ). task_mark reading root b (tasks_at all (drop j xs))) (sym again))
    ∙ sym (next_task_mark reading root b all xs (i - 1) x there (get_or_default xs (i - 1) d x there))

-- tests
next_any : (f : TaskEnds → Bool) (reading : Reading) (root b : Box) (all : List Thing) (xs : List Task) (i : ℕ) (x : Task) → i < length xs → x ≡ get_or xs i x → f (task_seen reading root b all x) ≡ false
    → list_any f (rows reading root b all (drop i xs)) ≡ list_any f (rows reading root b all (drop (i + 1) xs))
next_any f reading root b all xs i x below at unmet = steps.next_any f _ _ (task_seen reading root b all x) (rows_drop reading root b all xs i x below at) unmet

this_any : (f : TaskEnds → Bool) (reading : Reading) (root b : Box) (all : List Thing) (xs : List Task) (i : ℕ) (x : Task) → i < length xs → x ≡ get_or xs i x → f (task_seen reading root b all x) ≡ true
    → list_any f (rows reading root b all (drop i xs)) ≡ true
this_any f reading root b all xs i x below at met = steps.this_any f _ _ (task_seen reading root b all x) (rows_drop reading root b all xs i x below at) met

next_each : (f : TaskEnds → Bool) (reading : Reading) (root b : Box) (all : List Thing) (xs : List Task) (i : ℕ) (x : Task) → i < length xs → x ≡ get_or xs i x → f (task_seen reading root b all x) ≡ true
    → list_all f (rows reading root b all (drop i xs)) ≡ list_all f (rows reading root b all (drop (i + 1) xs))
next_each f reading root b all xs i x below at met = steps.next_each f _ _ (task_seen reading root b all x) (rows_drop reading root b all xs i x below at) met

this_fails : (f : TaskEnds → Bool) (reading : Reading) (root b : Box) (all : List Thing) (xs : List Task) (i : ℕ) (x : Task) → i < length xs → x ≡ get_or xs i x → f (task_seen reading root b all x) ≡ false
    → list_all f (rows reading root b all (drop i xs)) ≡ false
this_fails f reading root b all xs i x below at unmet = steps.this_fails f _ _ (task_seen reading root b all x) (rows_drop reading root b all xs i x below at) unmet

pub next_negative : (reading : Reading) (root b : Box) (all : List Thing) (xs : List Task) (i : ℕ) (x : Task) (e : TaskEnds) (t : Bool) → i < length xs → x ≡ get_or xs i x → e ≡ task_seen reading root b all x
    → t ≡ (int_lt e.duration.high (pos 0) || int_lt e.demand.high (pos 0)) → t ≡ false → some_negative (rows reading root b all (drop i xs)) ≡ some_negative (rows reading root b all (drop (i + 1) xs))
next_negative reading root b all xs i x e t below at is told met =
    next_any (λ (e : TaskEnds). (int_lt e.duration.high (pos 0) || int_lt e.demand.high (pos 0))) reading root b all xs i x below at
    (ap (λ (e : TaskEnds). (int_lt e.duration.high (pos 0) || int_lt e.demand.high (pos 0))) (sym is) ∙ sym told ∙ met)

pub this_negative : (reading : Reading) (root b : Box) (all : List Thing) (xs : List Task) (i : ℕ) (x : Task) (e : TaskEnds) (t : Bool) → i < length xs → x ≡ get_or xs i x → e ≡ task_seen reading root b all x
    → t ≡ (int_lt e.duration.high (pos 0) || int_lt e.demand.high (pos 0)) → t ≡ true → some_negative (rows reading root b all (drop i xs)) ≡ true
this_negative reading root b all xs i x e t below at is told met =
    this_any (λ (e : TaskEnds). (int_lt e.duration.high (pos 0) || int_lt e.demand.high (pos 0))) reading root b all xs i x below at
    (ap (λ (e : TaskEnds). (int_lt e.duration.high (pos 0) || int_lt e.demand.high (pos 0))) (sym is) ∙ sym told ∙ met)

pub none_negative : (reading : Reading) (root b : Box) (all : List Thing) (xs : List Task) (i : ℕ) → length xs ≤ i → some_negative (rows reading root b all (drop i xs)) ≡ false
none_negative reading root b all xs i past = at_drop_all (λ ys. some_negative (rows reading root b all ys)) xs i past

pub next_peak : (es : List TaskEnds) (capacity : Ends) (reading : Reading) (root b : Box) (all : List Thing) (xs : List Task) (i : ℕ) (x : Task) (e : TaskEnds) (t : Bool) → i < length xs
    → x ≡ get_or xs i x → e ≡ task_seen reading root b all x
    → t ≡ is_overfull es capacity e.start.high → t ≡ false → some_overfull es capacity (rows reading root b all (drop i xs)) ≡ some_overfull es capacity (rows reading root b all (drop (i + 1) xs))
next_peak es capacity reading root b all xs i x e t below at is told met =
    next_any (λ (e : TaskEnds). is_overfull es capacity e.start.high) reading root b all xs i x below at (ap (λ (e : TaskEnds). is_overfull es capacity e.start.high) (sym is) ∙ sym told ∙ met)

pub some_peak : (es : List TaskEnds) (capacity : Ends) (reading : Reading) (root b : Box) (all : List Thing) (xs : List Task) (i : ℕ) (x : Task) (e : TaskEnds) (t : Bool) → i < length xs
    → x ≡ get_or xs i x → e ≡ task_seen reading root b all x
    → t ≡ is_overfull es capacity e.start.high → t ≡ true → some_overfull es capacity (rows reading root b all (drop i xs)) ≡ true
some_peak es capacity reading root b all xs i x e t below at is told met =
    this_any (λ (e : TaskEnds). is_overfull es capacity e.start.high) reading root b all xs i x below at (ap (λ (e : TaskEnds). is_overfull es capacity e.start.high) (sym is) ∙ sym told ∙ met)

pub none_peak : (es : List TaskEnds) (capacity : Ends) (reading : Reading) (root b : Box) (all : List Thing) (xs : List Task) (i : ℕ) → length xs ≤ i → some_overfull es capacity (rows reading root b all (drop i xs)) ≡ false
none_peak es capacity reading root b all xs i past = at_drop_all (λ ys. some_overfull es capacity (rows reading root b all ys)) xs i past

pub next_sound : (reading : Reading) (root b : Box) (all : List Thing) (xs : List Task) (i : ℕ) (x : Task) (e : TaskEnds) (t : Bool) → i < length xs → x ≡ get_or xs i x → e ≡ task_seen reading root b all x
    → t ≡ (int_le (pos 0) e.duration.low && int_le (pos 0) e.demand.low) → t ≡ true → all_sound (rows reading root b all (drop i xs)) ≡ all_sound (rows reading root b all (drop (i + 1) xs))
next_sound reading root b all xs i x e t below at is told met =
    next_each (λ (e : TaskEnds). (int_le (pos 0) e.duration.low && int_le (pos 0) e.demand.low)) reading root b all xs i x below at
    (ap (λ (e : TaskEnds). (int_le (pos 0) e.duration.low && int_le (pos 0) e.demand.low)) (sym is) ∙ sym told ∙ met)

pub not_sound : (reading : Reading) (root b : Box) (all : List Thing) (xs : List Task) (i : ℕ) (x : Task) (e : TaskEnds) (t : Bool) → i < length xs → x ≡ get_or xs i x → e ≡ task_seen reading root b all x
    → t ≡ (int_le (pos 0) e.duration.low && int_le (pos 0) e.demand.low) → t ≡ false → all_sound (rows reading root b all (drop i xs)) ≡ false
not_sound reading root b all xs i x e t below at is told met =
    this_fails (λ (e : TaskEnds). (int_le (pos 0) e.duration.low && int_le (pos 0) e.demand.low)) reading root b all xs i x below at
    (ap (λ (e : TaskEnds). (int_le (pos 0) e.duration.low && int_le (pos 0) e.demand.low)) (sym is) ∙ sym told ∙ met)

pub all_are_sound : (reading : Reading) (root b : Box) (all : List Thing) (xs : List Task) (i : ℕ) → length xs ≤ i → all_sound (rows reading root b all (drop i xs)) ≡ true
all_are_sound reading root b all xs i past = at_drop_all (λ ys. all_sound (rows reading root b all ys)) xs i past

pub next_enough : (es : List TaskEnds) (capacity : Ends) (reading : Reading) (root b : Box) (all : List Thing) (xs : List Task) (i : ℕ) (x : Task) (e : TaskEnds) (t : Bool) → i < length xs
    → x ≡ get_or xs i x → e ≡ task_seen reading root b all x
    → t ≡ is_enough es capacity e.start.low → t ≡ true → all_enough es capacity (rows reading root b all (drop i xs)) ≡ all_enough es capacity (rows reading root b all (drop (i + 1) xs))
next_enough es capacity reading root b all xs i x e t below at is told met =
    next_each (λ (e : TaskEnds). is_enough es capacity e.start.low) reading root b all xs i x below at (ap (λ (e : TaskEnds). is_enough es capacity e.start.low) (sym is) ∙ sym told ∙ met)

pub not_enough : (es : List TaskEnds) (capacity : Ends) (reading : Reading) (root b : Box) (all : List Thing) (xs : List Task) (i : ℕ) (x : Task) (e : TaskEnds) (t : Bool) → i < length xs
    → x ≡ get_or xs i x → e ≡ task_seen reading root b all x
    → t ≡ is_enough es capacity e.start.low → t ≡ false → all_enough es capacity (rows reading root b all (drop i xs)) ≡ false
not_enough es capacity reading root b all xs i x e t below at is told met =
    this_fails (λ (e : TaskEnds). is_enough es capacity e.start.low) reading root b all xs i x below at (ap (λ (e : TaskEnds). is_enough es capacity e.start.low) (sym is) ∙ sym told ∙ met)

pub all_are_enough : (es : List TaskEnds) (capacity : Ends) (reading : Reading) (root b : Box) (all : List Thing) (xs : List Task) (i : ℕ) → length xs ≤ i → all_enough es capacity (rows reading root b all (drop i xs)) ≡ true
all_are_enough es capacity reading root b all xs i past = at_drop_all (λ ys. all_enough es capacity (rows reading root b all ys)) xs i past

-- room under the capacity
pub next_room : (ask : TaskEnds → ℤ) (reading : Reading) (root b : Box) (all : List Thing) (capacity room next asked : ℤ) (xs : List Task) (i : ℕ) (x : Task) (e : TaskEnds) → i < length xs → x ≡ get_or xs i x
    → e ≡ task_seen reading root b all x → asked ≡ ask e → asked ≤ℤ room → next ≡ room -ℤ asked → HasRoom ask capacity room (rows reading root b all (drop i xs)) (rows reading root b all xs)
    → HasRoom ask capacity next (rows reading root b all (drop (i + 1) xs)) (rows reading root b all xs)
next_room ask reading root b all capacity room next asked xs i x e below at is told fits less has =
    rooms.room_step ask capacity room next asked _ _ (rows reading root b all xs) (task_seen reading root b all x) has (rows_drop reading root b all xs i x below at) (told ∙ ap ask is) fits less

pub no_room : (reading : Reading) (root b : Box) (all : List Thing) (capacity : Ends) (time room asked : ℤ) (xs : List Task) (i : ℕ) (x : Task) (e : TaskEnds) → i < length xs → x ≡ get_or xs i x
    → e ≡ task_seen reading root b all x → asked ≡ least_asked time e → room <ℤ asked → HasRoom (least_asked time) capacity.high room (rows reading root b all (drop i xs)) (rows reading root b all xs)
    → is_overfull (rows reading root b all xs) capacity time ≡ true
no_room reading root b all capacity time room asked xs i x e below at is told more has =
    rooms.no_room capacity time room asked _ _ (rows reading root b all xs) (task_seen reading root b all x) has (rows_drop reading root b all xs i x below at) (told ∙ ap (least_asked time) is) more

pub room_left : (reading : Reading) (root b : Box) (all : List Thing) (capacity : Ends) (time room : ℤ) (xs : List Task) (i : ℕ) → length xs ≤ i
    → HasRoom (least_asked time) capacity.high room (rows reading root b all (drop i xs)) (rows reading root b all xs) → is_overfull (rows reading root b all xs) capacity time ≡ false
room_left reading root b all capacity time room xs i past has =
    rooms.room_left capacity time room _ (rows reading root b all xs) (at_drop_all (λ ys. rows reading root b all ys) xs i past) has

-- what tasks may ask for is not negative where none is unsound
demands_ordered : (here : Evaluator) (xs : List Task) → CanRead here → DemandsOrdered (rows (reading_of here) (box_in here.root) (box_in here.view) (things here.items.now) xs)
demands_ordered here [] ready = tt
demands_ordered here (x ∷ xs) ready =
    let root = box_in here.root in (
      (intervals_narrow (reading_of here) root (box_in here.view) root (term_at (things here.items.now) x.demand) ready.root_is_box ready.inside
          (small_term root here.items.now x.demand ready.built).proper).ordered,
      demands_ordered here xs ready,
    )

sound_dropped : (reading : Reading) (root b : Box) (all : List Thing) (xs : List Task) (i : ℕ) → SoundEnds (rows reading root b all xs) → SoundEnds (rows reading root b all (drop i xs))
sound_dropped reading root b all xs zero sound = sound
sound_dropped reading root b all [] (suc i) sound = sound
sound_dropped reading root b all (x ∷ xs) (suc i) sound = sound_dropped reading root b all xs i sound.2

-- one task's demand is not negative
pub asks_some : (here : Evaluator) (xs : List Task) (i : ℕ) (x : Task) (e : TaskEnds) (time asked : ℤ) → CanRead here
    → all_sound (rows (reading_of here) (box_in here.root) (box_in here.view) (things here.items.now) xs) ≡ true
    → i < length xs → x ≡ get_or xs i x → e ≡ task_seen (reading_of here) (box_in here.root) (box_in here.view) (things here.items.now) x → asked ≡ most_asked time e → pos 0 ≤ℤ asked
asks_some here xs i x e time asked ready sound below at is told =
    let root = box_in here.root in
    let b = box_in here.view in
    let all = things here.items.now in
    let f = task_seen (reading_of here) root b all x in
    let here_sound : SoundEnds (f ∷ rows (reading_of here) root b all (drop (i + 1) xs)) =
    subst SoundEnds (rows_drop (reading_of here) root b all xs i x below at) (sound_dropped (reading_of here) root b all xs i (sound_ends (rows (reading_of here) root b all xs) sound)) in
    let order = (intervals_narrow (reading_of here) root b root (term_at all x.demand) ready.root_is_box ready.inside (small_term root here.items.now x.demand ready.built).proper).ordered in
    subst (λ z. pos 0 ≤ℤ z) (sym (told ∙ ap (most_asked time) is)) (most_nonneg time f order here_sound.1)

pub no_most : (here : Evaluator) (capacity : Ends) (time room asked : ℤ) (xs : List Task) (i : ℕ) (x : Task) (e : TaskEnds) → CanRead here
    → all_sound (rows (reading_of here) (box_in here.root) (box_in here.view) (things here.items.now) xs) ≡ true → i < length xs → x ≡ get_or xs i x
    → e ≡ task_seen (reading_of here) (box_in here.root) (box_in here.view) (things here.items.now) x → asked ≡ most_asked time e → room <ℤ asked
    → HasRoom (most_asked time) capacity.low room (rows (reading_of here) (box_in here.root) (box_in here.view) (things here.items.now) (drop i xs))
    (rows (reading_of here) (box_in here.root) (box_in here.view) (things here.items.now) xs)
    → is_enough (rows (reading_of here) (box_in here.root) (box_in here.view) (things here.items.now) xs) capacity time ≡ false
no_most here capacity time room asked xs i x e ready sound below at is told more has =
    let root = box_in here.root in
    let b = box_in here.view in
    let all = things here.items.now in
    rooms.no_most capacity time room asked _ _ (rows (reading_of here) root b all xs) (task_seen (reading_of here) root b all x) (demands_ordered here (drop (i + 1) xs) ready)
    (sound_dropped (reading_of here) root b all xs (i + 1) (sound_ends (rows (reading_of here) root b all xs) sound)) has (rows_drop (reading_of here) root b all xs i x below at) (told ∙ ap (most_asked time) is) more

pub most_left : (reading : Reading) (root b : Box) (all : List Thing) (capacity : Ends) (time room : ℤ) (xs : List Task) (i : ℕ) → length xs ≤ i
    → HasRoom (most_asked time) capacity.low room (rows reading root b all (drop i xs)) (rows reading root b all xs) → is_enough (rows reading root b all xs) capacity time ≡ true
most_left reading root b all capacity time room xs i past has =
    rooms.most_left capacity time room _ (rows reading root b all xs) (at_drop_all (λ ys. rows reading root b all ys) xs i past) has

-- what is told of these
pub surely_not : (never always : Bool) (t : Bool) → t ≡ never → t ≡ true → judged Always never always ≡ False
surely_not never always t told met = ap (λ (p : Bool). judged Always p always) (sym told ∙ met)

pub surely_fit : (never always : Bool) (t s : Bool) → t ≡ never → t ≡ false → s ≡ always → s ≡ true → judged Always never always ≡ True
surely_fit never always t s told unmet also met = ap (λ (p : Bool). judged Always p always) (sym told ∙ unmet) ∙ ap (λ (p : Bool). if p then True else Unknown) (sym also ∙ met)

pub not_surely_fit : (never always : Bool) (t s : Bool) → t ≡ never → t ≡ false → s ≡ always → s ≡ false → judged Always never always ≡ Unknown
not_surely_fit never always t s told unmet also met = ap (λ (p : Bool). judged Always p always) (sym told ∙ unmet) ∙ ap (λ (p : Bool). if p then True else Unknown) (sym also ∙ met)
