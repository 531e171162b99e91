use Rattle.std.proofs.Common.{◌≡◌, ◌&&◌, List, ap, arith, rules, ℕ, ℤ, pos, ◌≤ℤ◌, ◌<◌, ◌-◌, Fits, w64, false, length, get_or, subst, sym, ◌∙◌}
use Rattle.term_language.specs.Globals.{least_asked, most_asked}
use Rattle.term_nodes.specs.declared.nodes.Task.{Task}
use Rattle.term_windows.specs.Tasks.{task_ends_of}
use Rattle.term_crowds.proofs.Times.{least_nonneg}
use Rattle.term_nodes.proofs.Tasking.{task_back, mark_back, task_below, next_room, no_room, no_most, asks_some}
use Rattle.term_nodes.proofs.Crowding.{spans, next_uncrowded, full_window}
use Rattle.std.proofs.lemmas.List.{get_or_default}
use Rattle.std.proofs.lemmas.Int.{ints}
use Rattle.term_math.specs.Shown.{box_in, ends_of}
use Rattle.term_nodes.specs.declared.nodes.Signed.{Signed}
use Rattle.term_nodes.specs.Built.{AllBelow}
use Rattle.term_nodes.specs.Seen.{reading_of, sight_of}
use Rattle.term_nodes.specs.Things.{table_at, term_at, terms_at, things}
use Rattle.term_nodes.proofs.Steps.{cond_back, cond_below, part_back, all_parts}
use Rattle.term_nodes.proofs.Plain.{plain_seen}
use Rattle.term_nodes.proofs.Ready.{difference_seen, times_seen, sum_seen}
use Rattle.term_nodes.proofs.Ranges.{extreme_folded, extreme_alone}
use Rattle.term_nodes.proofs.Elements.{below_last, complete_table, element_plain, element_alone}
use Rattle.term_nodes.proofs.Indexing.{indexed_whole, last_ascends, next_narrow, no_items_there}
use Rattle.term_language.specs.Arrays.{is_covered}
use Rattle.term_language.specs.Ends.{Ends}
use Rattle.term_math.specs.Ascending.{all_ascend, ascends}
use Rattle.term_math.specs.Kept.{table_of}
use Rattle.term_math.specs.Within.{has_one, ranges_of}
use Rattle.term_nodes.proofs.evaluation.Evaluator.+seen.Goals as goal

pub all-truth-here-requires : goal.all-truth-here-requires
all-truth-here-requires t c =
    (omega (arith, cond_back c.args.limit c.args.conds.now c.loop-i.i 0 c.requires.below c.loop-i-test.true c.loop-i.auto.i), c.requires.ready)

pub any-truth-here-requires : goal.any-truth-here-requires
any-truth-here-requires t c =
    (omega (arith, cond_back c.args.limit c.args.conds.now c.loop-i.i 0 c.requires.below c.loop-i-test.true c.loop-i.auto.i), c.requires.ready)

pub compare-difference-difference-requires : goal.compare-difference-difference-requires
compare-difference-difference-requires t c = record {
  fits = difference_seen c.args.self.now c.args.comparison.now.left c.args.comparison.now.right c.args.comparison.now.form c.seen-left.result c.seen-right.result c.requires.ready
      c.requires.difference c.seen-left.ensures c.seen-right.ensures;
}

pub sum-seen-seen-requires : goal.sum-seen-seen-requires
sum-seen-seen-requires t c =
    let none : Signed = record { subtracted = false; term = 0 } in
    (omega (arith, part_back c.args.limit c.args.parts.now c.loop-i.i none c.requires.below c.loop-i-test.true c.loop-i.auto.i), c.requires.ready)

pub sum-with_part-sum-requires-clause-times : goal.sum-with_part-sum-requires-clause-times
sum-with_part-sum-requires-clause-times t c =
    let none : Signed = record { subtracted = false; term = 0 } in
    let part : Signed = get_or c.args.parts.now (c.loop-i.i - 1) none in
    times_seen c.args.self.now part.subtracted part.term c.seen-seen.result c.requires.ready c.seen-seen.ensures

pub sum-with_part-sum-requires-clause-plus : goal.sum-with_part-sum-requires-clause-plus
sum-with_part-sum-requires-clause-plus t c =
    let none : Signed = record { subtracted = false; term = 0 } in
    sum_seen c.args.self.now c.args.parts.now c.loop-i.i none c.seen-seen.result c.loop-i.sum c.requires.ready c.requires.sound c.loop-i-test.true c.loop-i.auto.i c.seen-seen.ensures
    c.loop-i.invariant

pub sum-returns : goal.sum-returns
sum-returns t c =
    all_parts (reading_of c.args.self.now) (box_in c.args.self.now.root) (box_in c.args.self.now.view) (things c.args.self.now.items.now) c.args.parts.now c.loop-i.i (sight_of c.loop-i.sum) c.loop-i-test.false c.loop-i.invariant

pub seen-returns-then-is_plain : goal.seen-returns-then-is_plain
seen-returns-then-is_plain t c =
    c.clear-then-is_plain.ensures
    ∙ sym (plain_seen c.args.self.now c.args.id c.in-Some.item.now c.requires.ready (c.in-Some.ensures.some (box_in c.args.self.now.root) c.requires.ready.built) (sym c.is_plain.ensures
    ∙ c.if-is_plain.true))

pub extreme-returns-then-plain : goal.extreme-returns-then-plain
extreme-returns-then-plain t c =
    extreme_folded (reading_of c.args.self.now) (box_in c.args.self.now.root) (box_in c.args.self.now.view) c.args.extreme (term_at (things c.args.self.now.items.now) c.args.first)
    (terms_at (things c.args.self.now.items.now) c.args.later.now) c.args.plain (ends_of c.zero.result) (sight_of c.extreme_range-range.result)
    c.requires.plain c.if-plain.true c.zero.ensures c.extreme_range-range.ensures

pub extreme-returns : goal.extreme-returns
extreme-returns t c =
    extreme_alone (reading_of c.args.self.now) (box_in c.args.self.now.root) (box_in c.args.self.now.view) c.args.extreme (term_at (things c.args.self.now.items.now) c.args.first)
    (terms_at (things c.args.self.now.items.now) c.args.later.now) c.args.plain (sight_of c.extreme_range-range.result)
    c.requires.plain c.if-plain.false c.extreme_range-range.ensures

pub element-element_range-range-requires : goal.element-element_range-range-requires
element-element_range-range-requires t c =
    let few : Fits w64 (length c.args.at.now) = search rules in
    (omega (arith, few), (c.requires.ready, (omega (arith, c.requires.exists), c.requires.below)))

pub element_range-indexed-requires : goal.element_range-indexed-requires
element_range-indexed-requires t c =
    let few : Fits w64 (length c.args.at.now) = search rules in (
      omega (arith, few),
      (
        c.requires.ready,
        (
          c.requires.exists,
          (
            c.requires.below,
            (
              complete_table c.args.self.now c.args.table c.in-Some.found.now c.requires.ready c.in-Some.ensures.some,
              λ up. ap all_ascend c.as_slice.ensures.value ∙ c.in-Some.found.now.ascend up,
            ),
          ),
        ),
      ),
    )

pub indexed-indexed-requires : goal.indexed-indexed-requires
indexed-indexed-requires t c =
    let below = below_last c.args.limit c.in-Some.before.now c.in-Some.last.now (subst (AllBelow c.args.limit) c.in-Some.ensures.cases.0 c.loop-last.invariant.1.0) in (
      omega (arith, c.in-Some.ensures.cases.1, c.loop-last.invariant.1.1),
      (
        c.requires.ready,
        (
          c.requires.exists,
          (
            below.0,
            (
              c.requires.complete,
              λ up. (last_ascends c.loop-last.dimensions.now c.in-Some-split_last.others.now c.in-Some-split_last.set.now c.in-Some-split_last.ensures.cases.0 (c.loop-last.invariant.2 up)).0,
            ),
          ),
        ),
      ),
    )

pub indexed-with-more-requires : goal.indexed-with-more-requires
indexed-with-more-requires t c = record {
  ascends = λ up.
      ap ascends c.as_slice.ensures.value
      ∙ (last_ascends c.loop-last.dimensions.now c.in-Some-split_last.others.now c.in-Some-split_last.set.now c.in-Some-split_last.ensures.cases.0 (c.loop-last.invariant.2 up)).1;
}

pub indexed-loop-last-preserved : goal.indexed-loop-last-preserved
indexed-loop-last-preserved t c =
    let here = c.args.self.now in
    let r : Ends = ends_of c.range-range.result.ends in
    let numbers : List ℤ = c.in-Some-split_last.set.now.items in
    let one : length numbers ≡ 1 = first_of (search rules, grind arith) in
    let below = below_last c.args.limit c.in-Some.before.now c.in-Some.last.now (subst (AllBelow c.args.limit) c.in-Some.ensures.cases.0 c.loop-last.invariant.1.0) in (
      next_narrow (reading_of here) (box_in here.root) (box_in here.view) (things here.items.now) (table_of c.args.found.now) c.loop-last.left.now c.in-Some.before.now c.in-Some.last.now
          c.loop-last.dimensions.now c.in-Some-split_last.others.now c.in-Some-split_last.set.now c.loop-last.known c.with-more.result (ranges_of c.args.behind.now) r c.range-range.result.mark
          c.in-Some.ensures.cases.0 c.in-Some-split_last.ensures.cases.0 c.range-range.ensures.interval c.range-range.ensures.mark c.with-more.ensures.mark
          (c.with-more.ensures.covered ∙ ap (λ (xs : List ℤ). is_covered r xs && c.loop-last.known.covered) c.as_slice.ensures.value)
          (c.with-more.ensures.allowed ∙ ap (λ (xs : List ℤ). has_one r xs && c.loop-last.known.allowed) c.as_slice.ensures.value) one
          ∙ c.loop-last.invariant.0,
      (below.0, omega (arith, c.in-Some.ensures.cases.1, c.loop-last.invariant.1.1)),
      λ up. (last_ascends c.loop-last.dimensions.now c.in-Some-split_last.others.now c.in-Some-split_last.set.now c.in-Some-split_last.ensures.cases.0 (c.loop-last.invariant.2 up)).0,
    )

pub element_range-returns-then-is_empty : goal.element_range-returns-then-is_empty
element_range-returns-then-is_empty t c =
    let here = c.args.self.now in
    let none : length c.in-Some.found.now.elements.items ≡ 0 = first_of (search rules, grind arith) in
    no_items_there (box_in here.view) c.in-Some.found.now (table_at (things here.items.now) c.args.table) _ _ (ends_of c.zero-then-is_empty.result) _
    (c.in-Some.ensures.some (box_in here.root) c.requires.ready.built) none c.zero-then-is_empty.ensures c.never-then-is_empty.ensures

pub element_range-returns : goal.element_range-returns
element_range-returns t c =
    let here = c.args.self.now in
    indexed_whole (reading_of here) (box_in here.root) (box_in here.view) (things here.items.now) c.in-Some.found.now (table_at (things here.items.now) c.args.table) c.args.at.now c.as_slice.result.now
    c.none.result _ (c.in-Some.ensures.some (box_in here.root) c.requires.ready.built) (complete_table here c.args.table c.in-Some.found.now c.requires.ready c.in-Some.ensures.some)
    c.as_slice.ensures.value c.none.ensures.mark c.none.ensures.known c.indexed.ensures

pub indexed-range-range-requires : goal.indexed-range-range-requires
indexed-range-range-requires t c =
    let below = below_last c.args.limit c.in-Some.before.now c.in-Some.last.now (subst (AllBelow c.args.limit) c.in-Some.ensures.cases.0 c.loop-last.invariant.1.0) in
    (omega (arith, below.1), (c.requires.ready, omega (arith, below.1, c.requires.exists)))

pub element-returns-then-plain : goal.element-returns-then-plain
element-returns-then-plain t c =
    element_plain (reading_of c.args.self.now) (box_in c.args.self.now.root) (box_in c.args.self.now.view) (things c.args.self.now.items.now) c.args.at.now
    (table_at (things c.args.self.now.items.now) c.args.table) c.args.plain (sight_of c.element_range-range.result) c.requires.near c.requires.plain (ends_of c.zero.result) c.if-plain.true
    c.zero.ensures c.element_range-range.ensures

pub element-returns : goal.element-returns
element-returns t c =
    element_alone (reading_of c.args.self.now) (box_in c.args.self.now.root) (box_in c.args.self.now.view) (things c.args.self.now.items.now) c.args.at.now
    (table_at (things c.args.self.now.items.now) c.args.table) c.args.plain (sight_of c.element_range-range.result) c.requires.near c.requires.plain c.if-plain.false
    c.element_range-range.ensures

pub extreme_range-range-other-requires : goal.extreme_range-range-other-requires
extreme_range-range-other-requires t c =
    let id : ℕ = get_or c.args.later.now c.loop-id.id-index 0 in
    let there : id < c.args.limit = cond_below c.args.limit c.args.later.now c.loop-id.id-index id c.requires.below c.loop-id-test.true
    (get_or_default c.args.later.now c.loop-id.id-index 0 id c.loop-id-test.true) in
    (omega (arith, there), (c.requires.ready, omega (arith, there, c.requires.exists)))

pub apart_from-range-range-requires : goal.apart_from-range-range-requires
apart_from-range-range-requires t c =
    let id : ℕ = get_or c.args.terms.now c.terms.id-index 0 in
    let there : id < c.args.limit = cond_below c.args.limit c.args.terms.now c.terms.id-index id c.requires.below c.terms-test.true
    (get_or_default c.args.terms.now c.terms.id-index 0 id c.terms-test.true) in
    (omega (arith, there), (c.requires.ready, omega (arith, there, c.requires.exists)))

pub inside-range-range-requires : goal.inside-range-range-requires
inside-range-range-requires t c =
    let id : ℕ = get_or c.args.terms.now c.terms.id-index 0 in
    let there : id < c.args.limit = cond_below c.args.limit c.args.terms.now c.terms.id-index id c.requires.below c.terms-test.true
    (get_or_default c.args.terms.now c.terms.id-index 0 id c.terms-test.true) in
    (omega (arith, there), (c.requires.ready, omega (arith, there, c.requires.exists)))

pub never_differ-range-range-requires : goal.never_differ-range-range-requires
never_differ-range-range-requires t c =
    let id : ℕ = get_or c.args.terms.now c.terms.id-index 0 in
    let there : id < c.args.limit = cond_below c.args.limit c.args.terms.now c.terms.id-index id c.requires.below c.terms-test.true
    (get_or_default c.args.terms.now c.terms.id-index 0 id c.terms-test.true) in
    (omega (arith, there), (c.requires.ready, omega (arith, there, c.requires.exists)))

pub marks-range-here-requires : goal.marks-range-here-requires
marks-range-here-requires t c =
    let there = cond_back c.args.limit c.args.terms.now c.loop-i.i 0 c.requires.below c.loop-i-test.true c.loop-i.auto.i in
    (omega (arith, there), (c.requires.ready, omega (arith, there, c.requires.exists)))

pub crowded_from-returns-then-count-window : goal.crowded_from-returns-then-count-window
crowded_from-returns-then-count-window t c =
    sym (full_window c.args.self.now c.args.terms.now c.args.from.now.low c.windows.window c.inside-count.result c.requires.ready c.windows.invariant c.inside-count.ensures
    c.windows-test.true c.if-count-window.true)

pub never_differ-terms-preserved : goal.never_differ-terms-preserved
never_differ-terms-preserved t c =
    let id : ℕ = get_or c.args.terms.now c.terms.id-index 0 in
    let root = box_in c.args.self.now.root in
    let b = box_in c.args.self.now.view in
    let all = things c.args.self.now.items.now in
    sym (next_uncrowded (reading_of c.args.self.now) root b all (spans (reading_of c.args.self.now) root b all c.args.terms.now) c.args.terms.now c.terms.id-index id (ends_of c.range-range.result.ends) c.crowded_from.result
    c.terms-test.true (get_or_default c.args.terms.now c.terms.id-index 0 id c.terms-test.true) c.range-range.ensures.interval c.crowded_from.ensures c.if-crowded_from.false)
    ∙ c.terms.invariant

pub all_enough-task-range-requires : goal.all_enough-task-range-requires
all_enough-task-range-requires t c =
    let none : Task = record { start = 0; duration = 0; demand = 0 } in
    let x : Task = get_or c.args.tasks.now c.tasks.task-index none in
    let there = task_below c.args.limit c.args.tasks.now c.tasks.task-index x c.requires.below c.tasks-test.true (get_or_default c.args.tasks.now c.tasks.task-index none x c.tasks-test.true) in
    (omega arith, (c.requires.ready, (c.requires.exists, (there.0, (there.1.0, there.1.1)))))

pub all_sound-task-range-requires : goal.all_sound-task-range-requires
all_sound-task-range-requires t c =
    let none : Task = record { start = 0; duration = 0; demand = 0 } in
    let x : Task = get_or c.args.tasks.now c.tasks.task-index none in
    let there = task_below c.args.limit c.args.tasks.now c.tasks.task-index x c.requires.below c.tasks-test.true (get_or_default c.args.tasks.now c.tasks.task-index none x c.tasks-test.true) in
    (omega arith, (c.requires.ready, (c.requires.exists, (there.0, (there.1.0, there.1.1)))))

pub enough_at-task-range-requires : goal.enough_at-task-range-requires
enough_at-task-range-requires t c =
    let none : Task = record { start = 0; duration = 0; demand = 0 } in
    let x : Task = get_or c.args.tasks.now c.tasks.task-index none in
    let there = task_below c.args.limit c.args.tasks.now c.tasks.task-index x c.requires.below c.tasks-test.true (get_or_default c.args.tasks.now c.tasks.task-index none x c.tasks-test.true) in
    (omega arith, (c.requires.ready, (c.requires.exists, (there.0, (there.1.0, there.1.1)))))

pub overfull_at-task-range-requires : goal.overfull_at-task-range-requires
overfull_at-task-range-requires t c =
    let none : Task = record { start = 0; duration = 0; demand = 0 } in
    let x : Task = get_or c.args.tasks.now c.tasks.task-index none in
    let there = task_below c.args.limit c.args.tasks.now c.tasks.task-index x c.requires.below c.tasks-test.true (get_or_default c.args.tasks.now c.tasks.task-index none x c.tasks-test.true) in
    (omega arith, (c.requires.ready, (c.requires.exists, (there.0, (there.1.0, there.1.1)))))

pub some_negative-task-range-requires : goal.some_negative-task-range-requires
some_negative-task-range-requires t c =
    let none : Task = record { start = 0; duration = 0; demand = 0 } in
    let x : Task = get_or c.args.tasks.now c.tasks.task-index none in
    let there = task_below c.args.limit c.args.tasks.now c.tasks.task-index x c.requires.below c.tasks-test.true (get_or_default c.args.tasks.now c.tasks.task-index none x c.tasks-test.true) in
    (omega arith, (c.requires.ready, (c.requires.exists, (there.0, (there.1.0, there.1.1)))))

pub some_overfull-task-range-requires : goal.some_overfull-task-range-requires
some_overfull-task-range-requires t c =
    let none : Task = record { start = 0; duration = 0; demand = 0 } in
    let x : Task = get_or c.args.tasks.now c.tasks.task-index none in
    let there = task_below c.args.limit c.args.tasks.now c.tasks.task-index x c.requires.below c.tasks-test.true (get_or_default c.args.tasks.now c.tasks.task-index none x c.tasks-test.true) in
    (omega arith, (c.requires.ready, (c.requires.exists, (there.0, (there.1.0, there.1.1)))))

pub overfull_at-tasks-preserved : goal.overfull_at-tasks-preserved
overfull_at-tasks-preserved t c =
    let none : Task = record { start = 0; duration = 0; demand = 0 } in
    let x : Task = get_or c.args.tasks.now c.tasks.task-index none in
    let is = get_or_default c.args.tasks.now c.tasks.task-index none x c.tasks-test.true in
    let root = box_in c.args.self.now.root in
    let b = box_in c.args.self.now.view in
    let all = things c.args.self.now.items.now in
    let e = task_ends_of c.task-range.result in
    next_room (least_asked c.args.time.now.number) (reading_of c.args.self.now) root b all c.args.capacity.now.high c.tasks.room.number c.without-room.result.number c.least_asked-asked.result.number
    c.args.tasks.now c.tasks.task-index x e
    c.tasks-test.true is c.task-range.ensures.task c.least_asked-asked.ensures (omega (arith, ints, c.if-asked-room.false)) c.without-room.ensures c.tasks.invariant

pub enough_at-tasks-preserved : goal.enough_at-tasks-preserved
enough_at-tasks-preserved t c =
    let none : Task = record { start = 0; duration = 0; demand = 0 } in
    let x : Task = get_or c.args.tasks.now c.tasks.task-index none in
    let is = get_or_default c.args.tasks.now c.tasks.task-index none x c.tasks-test.true in
    let root = box_in c.args.self.now.root in
    let b = box_in c.args.self.now.view in
    let all = things c.args.self.now.items.now in
    let e = task_ends_of c.task-range.result in
    next_room (most_asked c.args.time.now.number) (reading_of c.args.self.now) root b all c.args.capacity.now.low c.tasks.room.number c.without-room.result.number c.most_asked-asked.result.number
    c.args.tasks.now c.tasks.task-index x e
    c.tasks-test.true is c.task-range.ensures.task c.most_asked-asked.ensures (omega (arith, ints, c.if-asked-room.false)) c.without-room.ensures c.tasks.invariant

pub overfull_at-returns-then-asked-room : goal.overfull_at-returns-then-asked-room
overfull_at-returns-then-asked-room t c =
    let none : Task = record { start = 0; duration = 0; demand = 0 } in
    let x : Task = get_or c.args.tasks.now c.tasks.task-index none in
    let is = get_or_default c.args.tasks.now c.tasks.task-index none x c.tasks-test.true in
    let root = box_in c.args.self.now.root in
    let b = box_in c.args.self.now.view in
    let all = things c.args.self.now.items.now in
    let e = task_ends_of c.task-range.result in
    sym (no_room (reading_of c.args.self.now) root b all (ends_of c.args.capacity.now) c.args.time.now.number c.tasks.room.number c.least_asked-asked.result.number c.args.tasks.now c.tasks.task-index x e
    c.tasks-test.true is c.task-range.ensures.task c.least_asked-asked.ensures (omega (arith, ints, c.if-asked-room.true)) c.tasks.invariant)

pub overfull_at-without-room-requires-clause-some : goal.overfull_at-without-room-requires-clause-some
overfull_at-without-room-requires-clause-some t c =
    subst (λ (z : ℤ). pos 0 ≤ℤ z) (sym c.least_asked-asked.ensures) (least_nonneg c.args.time.now.number (task_ends_of c.task-range.result))

pub enough_at-returns-then-asked-room : goal.enough_at-returns-then-asked-room
enough_at-returns-then-asked-room t c =
    let none : Task = record { start = 0; duration = 0; demand = 0 } in
    let x : Task = get_or c.args.tasks.now c.tasks.task-index none in
    let is = get_or_default c.args.tasks.now c.tasks.task-index none x c.tasks-test.true in
    let root = box_in c.args.self.now.root in
    let b = box_in c.args.self.now.view in
    let all = things c.args.self.now.items.now in
    let e = task_ends_of c.task-range.result in
    sym (no_most c.args.self.now (ends_of c.args.capacity.now) c.args.time.now.number c.tasks.room.number c.most_asked-asked.result.number c.args.tasks.now c.tasks.task-index x e
    c.requires.ready c.requires.sound c.tasks-test.true is c.task-range.ensures.task c.most_asked-asked.ensures (omega (arith, ints, c.if-asked-room.true)) c.tasks.invariant)

pub enough_at-without-room-requires-clause-some : goal.enough_at-without-room-requires-clause-some
enough_at-without-room-requires-clause-some t c =
    let none : Task = record { start = 0; duration = 0; demand = 0 } in
    let x : Task = get_or c.args.tasks.now c.tasks.task-index none in
    let is = get_or_default c.args.tasks.now c.tasks.task-index none x c.tasks-test.true in
    let root = box_in c.args.self.now.root in
    let b = box_in c.args.self.now.view in
    let all = things c.args.self.now.items.now in
    let e = task_ends_of c.task-range.result in
    asks_some c.args.self.now c.args.tasks.now c.tasks.task-index x e c.args.time.now.number c.most_asked-asked.result.number c.requires.ready c.requires.sound c.tasks-test.true is
    c.task-range.ensures.task c.most_asked-asked.ensures

pub task_marks-task-here-requires : goal.task_marks-task-here-requires
task_marks-task-here-requires t c =
    let none : Task = record { start = 0; duration = 0; demand = 0 } in
    let there = task_back c.args.limit c.args.tasks.now c.loop-i.i none c.requires.below c.loop-i-test.true c.loop-i.auto.i in
    (omega arith, (c.requires.ready, (c.requires.exists, (there.0, (there.1.0, there.1.1)))))

pub task_marks-loop-i-preserved : goal.task_marks-loop-i-preserved
task_marks-loop-i-preserved t c =
    let none : Task = record { start = 0; duration = 0; demand = 0 } in
    mark_back (reading_of c.args.self.now) (box_in c.args.self.now.root) (box_in c.args.self.now.view) (things c.args.self.now.items.now) c.args.tasks.now c.loop-i.i none c.task-here.result.mark c.loop-i.mark c.both-mark.result
    c.loop-i-test.true c.loop-i.auto.i c.task-here.ensures.mark c.both-mark.ensures c.loop-i.invariant
