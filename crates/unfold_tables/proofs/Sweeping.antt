-- What changes come to from one time to the next.
use Rattle.std.proofs.Common.{◌≡◌, refl, sym, ap, subst, ◌∙◌, ℕ, zero, suc, ◌+◌, ◌<◌, ◌≤◌, ℤ, pos, ◌+ℤ◌, ◌-ℤ◌, ◌<ℤ◌, int_le, int_lt, Bool, true, false, true≢false, not, ◌&&◌, cond, arith}
use Rattle.std.proofs.Common.{List, [], ◌∷◌, length, get_or, drop, map, Option, Some, None, IfSome, if◌then◌else◌}
use Rattle.std.proofs.lemmas.Int.{ints}
use Rattle.std.proofs.lemmas.List.{at_drop_more, at_drop_all}
use Rattle.std.specs.BTreeMap.{BTreeMap, Updates, get, insert_entry, is_at}
use Rattle.std.specs.Cmp.{int_ranked, int_cmp_is}
use Rattle.std.specs.List.{AllByRecursion, list_all}
use Rattle.std.specs.List.Sorted.{IsStrictlySortedBy}
use Rattle.std.specs.Map.{keys_of, lookup}
use Rattle.std.specs.Option.{unwrap_or}
use Rattle.std.specs.Ordering.{int_cmp, int_eq, is_eq, match_ordering}
use Rattle.std.specs.declared.cmp.Ordering.{Ordering}
use Rattle.std.specs.declared.cmp.Ordering.TheVariants.{Less, Equal, Greater}
use Rattle.sopl_base.specs.declared.wide.Wide.{Wide}
use Rattle.sopl_base.proofs.Integers.{zero_plus}
use Rattle.sopl_base.proofs.Tests.{equal_tested, le_test, le_tested, le_untest, lt_untest, lt_untested}
use Rattle.sopl_ast.specs.Numbers.{Task, asked, demanded}
use Rattle.unfold_tables.specs.declared.changes.Change.{Change}
use Rattle.unfold_tables.specs.declared.tasks.TaskNumbers.{TaskNumbers}
use Rattle.unfold_tables.specs.Changing.{After, Rise, changes_in, level, part}
use Rattle.unfold_tables.specs.Tables.{task_in}

abbrev nothing : Wide
nothing = record { value = pos 0 }

-- The two changes of a task.

not_before : (x y : ℤ) → int_lt x y ≡ not (int_le y x)
not_before x y = on (int_le y x) refl
  where
    on : (b : Bool) → int_le y x ≡ b → int_lt x y ≡ not b
    on true h = lt_untest x y (le_tested y x h)
    on false h = grind (arith, ints)

abbrev when : Bool → ℤ → ℤ
when b z = if b then z else pos 0

both_parts : (p q : Bool) (d : ℤ) → (q ≡ true → p ≡ true) → when p d +ℤ when q (pos 0 -ℤ d) ≡ when (p && not q) d
both_parts true true d so = omega (arith, ints)
both_parts true false d so = omega (arith, ints)
both_parts false true d so = absurd (true≢false (sym (so refl)))
both_parts false false d so = refl

pub two_parts : (time : ℤ) (a b : Change) (t : Task) → a.time ≡ t.start → a.by.value ≡ t.demand → b.time ≡ t.start +ℤ t.duration → b.by.value ≡ pos 0 -ℤ t.demand
    → int_lt t.duration (pos 0) ≡ false → part time a +ℤ part time b ≡ asked time t
two_parts time a b t start demand end less sound =
    let so : int_le (t.start +ℤ t.duration) time ≡ true → int_le t.start time ≡ true =
    λ h. le_test t.start time (omega (arith, ints, le_tested (t.start +ℤ t.duration) time h, lt_untested t.duration (pos 0) sound)) in
    (λ i. when (int_le (start i) time) (demand i) +ℤ when (int_le (end i) time) (less i))
    ∙ both_parts (int_le t.start time) (int_le (t.start +ℤ t.duration) time) t.demand so
    ∙ ap (λ (r : Bool). when (int_le t.start time && r) t.demand) (sym (not_before time (t.start +ℤ t.duration)))

-- Changes that rise.

after_from : (time : ℤ) (es : List (ℤ × Wide)) → AllByRecursion (λ y. int_cmp time y ≡ Less) (keys_of es) → After time (changes_in es)
after_from time [] all = tt
after_from time (e ∷ es) all = (int_ranked time e.0 Less (sym (all.0)), after_from time es all.1)

pub rising : (es : List (ℤ × Wide)) → IsStrictlySortedBy int_cmp (keys_of es) → Rise (changes_in es)
unfolding IsStrictlySortedBy
rising [] sorted = tt
rising (e ∷ es) sorted = (after_from e.0 es sorted.0, rising es sorted.1)

after_less : (a b : ℤ) (cs : List Change) → a <ℤ b → After b cs → After a cs
after_less a b [] less after = tt
after_less a b (c ∷ cs) less after = (omega (arith, ints, less, after.0), after_less a b cs less after.1)

after_at : (time : ℤ) (cs : List Change) (i : ℕ) (c : Change) → After time cs → i < length cs → c ≡ get_or cs i c → time <ℤ c.time
after_at time [] i c after below at = absurd (omega (arith, below))
after_at time (x ∷ xs) zero c after below at = subst (λ (y : Change). time <ℤ y.time) (sym at) after.0
after_at time (x ∷ xs) (suc i) c after below at = after_at time xs i c after.1 (omega (arith, below)) at

-- nothing comes of changes before their time
level_before : (time : ℤ) (cs : List Change) → After time cs → level time cs ≡ pos 0
level_before time [] after = refl
level_before time (c ∷ cs) after =
    ap (λ (b : Bool). when b c.by.value +ℤ level time cs) (le_untest c.time time after.0)
    ∙ zero_plus (level time cs)
    ∙ level_before time cs after.1

-- A change that is put among others.

lookup_after : (k : ℤ) (es : List (ℤ × Wide)) → After k (changes_in es) → lookup (is_at (int_cmp k)) es ≡ None
lookup_after k [] after = refl
lookup_after k (e ∷ es) after =
    ap (λ (o : Ordering). cond (is_eq o) (Some e.1) (lookup (is_at (int_cmp k)) es)) (sym (int_cmp_is k e.0 Less after.0)) ∙ lookup_after k es after.1

abbrev before : ℤ → List (ℤ × Wide) → Wide
before k es = unwrap_or (lookup (is_at (int_cmp k)) es) nothing

alone : (t : Bool) (w by : ℤ) → w ≡ pos 0 +ℤ by → when t w ≡ when t by
alone true w by is = is ∙ zero_plus by
alone false w by is = refl

added : (t : Bool) (w u by : ℤ) → w ≡ u +ℤ by → when t w ≡ when t u +ℤ when t by
added true w u by is = is
added false w u by is = refl

put_level : (time k : ℤ) (by w : Wide) (es : List (ℤ × Wide)) → Rise (changes_in es) → w.value ≡ (before k es).value +ℤ by.value
    → level time (changes_in (insert_entry int_cmp es k w)) ≡ level time (changes_in es) +ℤ part time (record { time = k; by = by })
put_level time k by w [] rise is = omega (arith, ints, alone (int_le k time) w.value by.value is)
put_level time k by w (e ∷ es) rise is = on (int_cmp k e.0) refl (put_level time k by w es rise.1)
  where
    on : (o : Ordering) → int_cmp k e.0 ≡ o
        → (w.value ≡ (before k es).value +ℤ by.value
        → level time (changes_in (insert_entry int_cmp es k w)) ≡ level time (changes_in es) +ℤ part time (record { time = k; by = by }))
        → level time (changes_in (match_ordering o ((k, w) ∷ e ∷ es) ((e.0, w) ∷ es) (e ∷ insert_entry int_cmp es k w)))
        ≡ level time (changes_in (e ∷ es)) +ℤ part time (record { time = k; by = by })
    on Less h later =
        let less : k <ℤ e.0 = int_ranked k e.0 Less (sym h) in
        let none : before k (e ∷ es) ≡ nothing = ap (λ (o : Option Wide). unwrap_or o nothing) (lookup_after k (e ∷ es) (less, after_less k e.0 (changes_in es) less rise.0)) in
        omega (arith, ints, alone (int_le k time) w.value by.value (is ∙ ap (λ (b : Wide). b.value +ℤ by.value) none))
    on Equal h later =
        let same : k ≡ e.0 = int_ranked k e.0 Equal (sym h) in
        let found : before k (e ∷ es) ≡ e.1 = ap (λ (o : Ordering). unwrap_or (cond (is_eq o) (Some e.1) (lookup (is_at (int_cmp k)) es)) nothing) h in
        let more : part time (record { time = k; by = by }) ≡ when (int_le e.0 time) by.value = ap (λ (z : ℤ). when (int_le z time) by.value) same in
        omega (arith, ints, more, added (int_le e.0 time) w.value e.1.value by.value (is ∙ ap (λ (b : Wide). b.value +ℤ by.value) found))
    on Greater h later =
        let found : before k (e ∷ es) ≡ before k es = ap (λ (o : Ordering). unwrap_or (cond (is_eq o) (Some e.1) (lookup (is_at (int_cmp k)) es)) nothing) h in
        omega (arith, ints, later (is ∙ ap (λ (b : Wide). b.value +ℤ by.value) found))

pub change_put : (time : ℤ) (c : Change) (w found : Wide) (old new : List (ℤ × Wide)) → new ≡ insert_entry int_cmp old c.time w → IsStrictlySortedBy int_cmp (keys_of old)
    → found ≡ unwrap_or (lookup (is_at (int_cmp c.time)) old) (record { value = pos 0 }) → w.value ≡ found.value +ℤ c.by.value
    → level time (changes_in new) ≡ level time (changes_in old) +ℤ part time c
change_put time c w found old new is sorted at sum =
    ap (λ es. level time (changes_in es)) is
    ∙ put_level time c.time c.by w old (rising old sorted) (sum ∙ ap (λ (b : Wide). b.value +ℤ c.by.value) at)

-- Sums from the first change on.

abbrev pub total_of : List Change → ℤ
total_of [] = pos 0
total_of (c ∷ later) = c.by.value +ℤ total_of later

rising_at : (cs : List Change) (i : ℕ) (c : Change) → Rise cs → i < length cs → c ≡ get_or cs i c → level c.time cs +ℤ total_of (drop (i + 1) cs) ≡ total_of cs
rising_at [] i c rise below at = absurd (omega (arith, below))
rising_at (x ∷ xs) zero c rise below at =
    let here : part x.time x ≡ x.by.value = ap (λ (b : Bool). when b x.by.value) (le_test x.time x.time (omega (arith, ints))) in
    let base : (part x.time x +ℤ level x.time xs) +ℤ total_of xs ≡ x.by.value +ℤ total_of xs = omega (arith, ints, here, level_before x.time xs rise.0) in
    subst (λ (y : Change). level y.time (x ∷ xs) +ℤ total_of xs ≡ x.by.value +ℤ total_of xs) (sym at) base
rising_at (x ∷ xs) (suc i) c rise below at =
    let later : x.time <ℤ c.time = after_at x.time xs i c rise.0 (omega (arith, below)) at in
    let here : part c.time x ≡ x.by.value = ap (λ (b : Bool). when b x.by.value) (le_test x.time c.time (omega (arith, ints, later))) in
    let more : (part c.time x +ℤ level c.time xs) +ℤ total_of (drop (i + 1) xs) ≡ x.by.value +ℤ total_of xs =
    omega (arith, ints, here, rising_at xs i c rise.1 (omega (arith, below)) at) in
    let next : suc i + 1 ≡ suc (i + 1) = omega arith in
    subst (λ (n : ℕ). level c.time (x ∷ xs) +ℤ total_of (drop n (x ∷ xs)) ≡ total_of (x ∷ xs)) (sym next) more

module _ (cs : List Change) (i : ℕ) (c : Change) (sum total : Wide) (below : i < length cs) (at : c ≡ get_or cs i c) (all : total.value +ℤ total_of (drop i cs) ≡ total_of cs)
    (is : sum.value ≡ total.value +ℤ c.by.value) where
  left : total_of (drop i cs) ≡ c.by.value +ℤ total_of (drop (i + 1) cs)
  left = at_drop_more total_of cs i c below ∙ ap (λ (u : Change). u.by.value +ℤ total_of (drop (i + 1) cs)) (sym at)

  -- the next change is in the sum
  pub total_more : sum.value +ℤ total_of (drop (i + 1) cs) ≡ total_of cs
  total_more = omega (arith, ints, is, all, left)

  -- and the sum is kept for its time
  pub level_more : Rise cs → (old new : BTreeMap ℤ Wide) → Updates int_cmp old new c.time (Some sum)
      → ((time : ℤ) → IfSome (get int_cmp old time) (λ (w : Wide). w.value ≡ level time cs)) → (time : ℤ) → IfSome (get int_cmp new time) (λ (w : Wide). w.value ≡ level time cs)
  level_more rise old new updates kept time =
      subst (λ (o : Option Wide). IfSome o (λ (w : Wide). w.value ≡ level time cs)) (sym (updates.0 time)) (on (int_eq c.time time) refl)
    where
      here : sum.value ≡ level c.time cs
      here = omega (arith, ints, is, all, left, rising_at cs i c rise below at)

      on : (b : Bool) → int_eq c.time time ≡ b → IfSome (cond b (Some sum) (get int_cmp old time)) (λ (w : Wide). w.value ≡ level time cs)
      on true same = subst (λ (t : ℤ). sum.value ≡ level t cs) (equal_tested c.time time same) here
      on false other = kept time

-- Tasks that fit, one after the other.

abbrev pub fit : List TaskNumbers → ℤ → TaskNumbers → Bool
fit all capacity t = int_le (demanded (task_in t).start (map task_in all)) capacity

module _ (all : List TaskNumbers) (capacity : ℤ) (i : ℕ) where
  pub fit_more : (t : TaskNumbers) → i < length all → t ≡ get_or all i t → fit all capacity t ≡ true
      → list_all (fit all capacity) (drop (i + 1) all) ≡ list_all (fit all capacity) (drop i all)
  fit_more t below at holds =
      sym (ap (λ (b : Bool). b && list_all (fit all capacity) (drop (i + 1) all)) holds)
      ∙ ap (λ (u : TaskNumbers). fit all capacity u && list_all (fit all capacity) (drop (i + 1) all)) at
      ∙ sym (at_drop_more (λ rest. list_all (fit all capacity) rest) all i t below)

  pub fit_fails : (t : TaskNumbers) → i < length all → t ≡ get_or all i t → fit all capacity t ≡ false → list_all (fit all capacity) (drop i all) ≡ false
  fit_fails t below at fails =
      at_drop_more (λ rest. list_all (fit all capacity) rest) all i t below
      ∙ ap (λ (u : TaskNumbers). fit all capacity u && list_all (fit all capacity) (drop (i + 1) all)) (sym at)
      ∙ ap (λ (b : Bool). b && list_all (fit all capacity) (drop (i + 1) all)) fails

  pub fit_end : length all ≤ i → list_all (fit all capacity) (drop i all) ≡ true
  fit_end past = at_drop_all (λ rest. list_all (fit all capacity) rest) all i past

pub ruleset passing = (fit_more, fit_fails, fit_end)
