use Rattle.std.proofs.Common.{◌≡◌, ℕ, ◌+◌, ◌*◌, ◌^◌, ◌≤◌, drop, length, true}
use Rattle.term_language.specs.Rules as rule
use Rattle.term_math.specs.Shown.{box_in, ends_of}
use Rattle.term_nodes.specs.Things.{conds_at, parts_at, term_at, terms_at, things}
use Rattle.term_nodes.specs.Seen.{indexed_sight, reading_of, sight_of, sum_sight}
use Rattle.term_math.specs.Ascending.{all_ascend}
use Rattle.term_math.specs.Kept.{sets_of, table_of}
use Rattle.term_math.specs.Within.{known_of, ranges_of}
use Rattle.term_language.specs.Globals.{always_differ, are_apart}
use Rattle.std.specs.List.{list_all}
use Rattle.term_language.specs.Marks.{all_marks}
use Rattle.term_nodes.specs.Built.{AllBelow}
use Rattle.term_windows.specs.Windows.{inside_in}
use Rattle.term_nodes.proofs.Crowding.{spans}
use Rattle.term_windows.proofs.Crowding.{IsSearched, crowd_of}
use Rattle.term_language.specs.Globals.{least_asked, most_asked}
use Rattle.term_crowds.specs.Crowds.{all_sound, some_negative}
use Rattle.term_windows.specs.Tasks.{all_enough, some_overfull}
use Rattle.term_windows.proofs.Fitting.{HasRoom}
use Rattle.term_nodes.specs.Things.{tasks_at}
use Rattle.term_nodes.proofs.Tasking.{rows}
use Rattle.term_nodes.proofs.Ranges.{taken}
use Rattle.term_nodes.proofs.evaluation.Evaluator.+seen.Given as goal

-- more than the indices of an element are, and four times that
abbrev most : ℕ
most = 2 ^ 64

abbrev wide : ℕ
wide = 4 * most

abbrev pub decreases-all : goal.decreases-all
decreases-all l = wide * l.limit

abbrev pub decreases-any : goal.decreases-any
decreases-any l = wide * l.limit

abbrev pub decreases-chain : goal.decreases-chain
decreases-chain l = wide * l.id + most

abbrev pub decreases-compare : goal.decreases-compare
decreases-compare l = wide * l.limit

abbrev pub decreases-element : goal.decreases-element
decreases-element l = wide * l.limit + most + 1

abbrev pub decreases-element_range : goal.decreases-element_range
decreases-element_range l = wide * l.limit + most

abbrev pub decreases-indexed : goal.decreases-indexed
decreases-indexed l = wide * l.limit + length l.at.now

abbrev pub decreases-indexed-loop-last : goal.decreases-indexed-loop-last
decreases-indexed-loop-last l = length l.left

abbrev pub invariant-indexed-loop-last : goal.invariant-indexed-loop-last
invariant-indexed-loop-last l =
    (indexed_sight (reading_of l.self) (box_in l.self.root) (box_in l.self.view) (table_of l.found) (terms_at (things l.self.items.now) l.left) (sets_of l.dimensions) l.known.mark
    (known_of l.known (ranges_of l.behind))
    ≡ indexed_sight (reading_of l.self) (box_in l.self.root) (box_in l.self.view) (table_of l.found) (terms_at (things l.self.items.now) l.at) (sets_of l.sets) l.indices.mark
    (known_of l.indices (ranges_of l.behind)))
    × (AllBelow l.limit l.left × (length l.left ≤ length l.at))
    × (l.found.ascending ≡ true → all_ascend l.dimensions ≡ true)

abbrev pub decreases-extreme : goal.decreases-extreme
decreases-extreme l = wide * l.limit + 1

abbrev pub decreases-extreme_range : goal.decreases-extreme_range
decreases-extreme_range l = wide * l.limit

abbrev pub decreases-implies : goal.decreases-implies
decreases-implies l = wide * l.limit

abbrev pub decreases-number : goal.decreases-number
decreases-number l = wide * l.limit

abbrev pub decreases-product : goal.decreases-product
decreases-product l = wide * l.limit

abbrev pub decreases-raised : goal.decreases-raised
decreases-raised l = wide * l.id + 1

abbrev pub decreases-range : goal.decreases-range
decreases-range l = wide * l.id + 2 * most + 1

abbrev pub decreases-seen : goal.decreases-seen
decreases-seen l = wide * l.id + 2 * most

abbrev pub decreases-segment : goal.decreases-segment
decreases-segment l = wide * l.top + 1 + l.steps

abbrev pub decreases-sum : goal.decreases-sum
decreases-sum l = wide * l.limit

abbrev pub decreases-node_truth : goal.decreases-node_truth
decreases-node_truth l = wide * l.limit + most

abbrev pub decreases-truth : goal.decreases-truth
decreases-truth l = wide * l.id + 2 * most

abbrev pub invariant-all-loop-i : goal.invariant-all-loop-i
invariant-all-loop-i l =
    l.truth ≡ rule.all_truth (reading_of l.self) (box_in l.self.root) (box_in l.self.view) (conds_at (things l.self.items.now) (drop l.i l.conds))

abbrev pub invariant-any-loop-i : goal.invariant-any-loop-i
invariant-any-loop-i l =
    l.truth ≡ rule.any_truth (reading_of l.self) (box_in l.self.root) (box_in l.self.view) (conds_at (things l.self.items.now) (drop l.i l.conds))

abbrev pub invariant-extreme_range-loop-id : goal.invariant-extreme_range-loop-id
invariant-extreme_range-loop-id l =
    taken (reading_of l.self) (box_in l.self.root) (box_in l.self.view) l.extreme (ends_of l.taken.ends) l.taken.mark (terms_at (things l.self.items.now) (drop l.id-index l.later))
    ≡ taken (reading_of l.self) (box_in l.self.root) (box_in l.self.view) l.extreme (rule.interval (reading_of l.self) (box_in l.self.root) (box_in l.self.view) (term_at (things l.self.items.now) l.first))
    (rule.mark (reading_of l.self) (box_in l.self.root) (box_in l.self.view) (term_at (things l.self.items.now) l.first)) (terms_at (things l.self.items.now) l.later)

abbrev pub invariant-sum-loop-i : goal.invariant-sum-loop-i
invariant-sum-loop-i l =
    sight_of l.sum ≡ sum_sight (reading_of l.self) (box_in l.self.root) (box_in l.self.view) (parts_at (things l.self.items.now) (drop l.i l.parts))

abbrev pub decreases-marks : goal.decreases-marks
decreases-marks l = wide * l.limit

abbrev pub decreases-inside : goal.decreases-inside
decreases-inside l = wide * l.limit

abbrev pub decreases-crowded_from : goal.decreases-crowded_from
decreases-crowded_from l = wide * l.limit + 1

abbrev pub decreases-crowded_from-windows : goal.decreases-crowded_from-windows
decreases-crowded_from-windows l = l.window.width

abbrev pub decreases-never_differ : goal.decreases-never_differ
decreases-never_differ l = wide * l.limit + 2

abbrev pub decreases-apart_from : goal.decreases-apart_from
decreases-apart_from l = wide * l.limit

abbrev pub decreases-always_differ : goal.decreases-always_differ
decreases-always_differ l = wide * l.limit + 1

abbrev pub decreases-always_differ-terms : goal.decreases-always_differ-terms
decreases-always_differ-terms l = length l.left

abbrev pub decreases-may_differ : goal.decreases-may_differ
decreases-may_differ l = wide * l.limit + 3

abbrev pub decreases-do_differ : goal.decreases-do_differ
decreases-do_differ l = wide * l.limit + 4

abbrev pub decreases-all_different : goal.decreases-all_different
decreases-all_different l = wide * l.limit + 5

abbrev pub invariant-marks-loop-i : goal.invariant-marks-loop-i
invariant-marks-loop-i l =
    l.mark ≡ all_marks (rule.marks (reading_of l.self) (box_in l.self.root) (box_in l.self.view) (terms_at (things l.self.items.now) (drop l.i l.terms)))

abbrev pub invariant-inside-terms : goal.invariant-inside-terms
invariant-inside-terms l =
    (l.count ≤ l.id-index)
    × (l.count + inside_in l.window (spans (reading_of l.self) (box_in l.self.root) (box_in l.self.view) (things l.self.items.now) (drop l.id-index l.terms))
    ≡ inside_in l.window (spans (reading_of l.self) (box_in l.self.root) (box_in l.self.view) (things l.self.items.now) l.terms))

abbrev pub invariant-crowded_from-windows : goal.invariant-crowded_from-windows
invariant-crowded_from-windows l = IsSearched (spans (reading_of l.self) (box_in l.self.root) (box_in l.self.view) (things l.self.items.now) l.terms) l.from.low l.window

abbrev pub invariant-never_differ-terms : goal.invariant-never_differ-terms
invariant-never_differ-terms l =
    crowd_of (spans (reading_of l.self) (box_in l.self.root) (box_in l.self.view) (things l.self.items.now) l.terms) (spans (reading_of l.self) (box_in l.self.root) (box_in l.self.view) (things l.self.items.now) (drop l.id-index l.terms))
    ≡ crowd_of (spans (reading_of l.self) (box_in l.self.root) (box_in l.self.view) (things l.self.items.now) l.terms) (spans (reading_of l.self) (box_in l.self.root) (box_in l.self.view) (things l.self.items.now) l.terms)

abbrev pub invariant-apart_from-terms : goal.invariant-apart_from-terms
invariant-apart_from-terms l =
    list_all (are_apart (ends_of l.from)) (spans (reading_of l.self) (box_in l.self.root) (box_in l.self.view) (things l.self.items.now) (drop l.id-index l.terms))
    ≡ list_all (are_apart (ends_of l.from)) (spans (reading_of l.self) (box_in l.self.root) (box_in l.self.view) (things l.self.items.now) l.terms)

abbrev pub invariant-always_differ-terms : goal.invariant-always_differ-terms
invariant-always_differ-terms l =
    AllBelow l.limit l.left
    × (always_differ (spans (reading_of l.self) (box_in l.self.root) (box_in l.self.view) (things l.self.items.now) l.left) ≡ always_differ
    (spans (reading_of l.self) (box_in l.self.root) (box_in l.self.view) (things l.self.items.now) l.terms))

abbrev pub decreases-task : goal.decreases-task
decreases-task l = wide * l.limit + 0

abbrev pub decreases-task_marks : goal.decreases-task_marks
decreases-task_marks l = wide * l.limit + 1

abbrev pub decreases-some_negative : goal.decreases-some_negative
decreases-some_negative l = wide * l.limit + 1

abbrev pub decreases-overfull_at : goal.decreases-overfull_at
decreases-overfull_at l = wide * l.limit + 1

abbrev pub decreases-some_overfull : goal.decreases-some_overfull
decreases-some_overfull l = wide * l.limit + 2

abbrev pub decreases-never_fit : goal.decreases-never_fit
decreases-never_fit l = wide * l.limit + 3

abbrev pub decreases-all_sound : goal.decreases-all_sound
decreases-all_sound l = wide * l.limit + 1

abbrev pub decreases-enough_at : goal.decreases-enough_at
decreases-enough_at l = wide * l.limit + 1

abbrev pub decreases-all_enough : goal.decreases-all_enough
decreases-all_enough l = wide * l.limit + 2

abbrev pub decreases-always_fit : goal.decreases-always_fit
decreases-always_fit l = wide * l.limit + 3

abbrev pub decreases-may_fit : goal.decreases-may_fit
decreases-may_fit l = wide * l.limit + 4

abbrev pub decreases-do_fit : goal.decreases-do_fit
decreases-do_fit l = wide * l.limit + 4

abbrev pub decreases-cumulative : goal.decreases-cumulative
decreases-cumulative l = wide * l.limit + 5

abbrev pub invariant-task_marks-loop-i : goal.invariant-task_marks-loop-i
invariant-task_marks-loop-i l =
    l.mark ≡ rule.task_mark (reading_of l.self) (box_in l.self.root) (box_in l.self.view) (tasks_at (things l.self.items.now) (drop l.i l.tasks))

abbrev pub invariant-some_negative-tasks : goal.invariant-some_negative-tasks
invariant-some_negative-tasks l = some_negative (rows (reading_of l.self) (box_in l.self.root) (box_in l.self.view) (things l.self.items.now) (drop l.task-index l.tasks)) ≡ some_negative
    (rows (reading_of l.self) (box_in l.self.root) (box_in l.self.view) (things l.self.items.now) l.tasks)

abbrev pub invariant-overfull_at-tasks : goal.invariant-overfull_at-tasks
invariant-overfull_at-tasks l = HasRoom (least_asked l.time.number) l.capacity.high l.room.number
    (rows (reading_of l.self) (box_in l.self.root) (box_in l.self.view) (things l.self.items.now) (drop l.task-index l.tasks)) (rows (reading_of l.self) (box_in l.self.root) (box_in l.self.view) (things l.self.items.now) l.tasks)

abbrev pub invariant-some_overfull-tasks : goal.invariant-some_overfull-tasks
invariant-some_overfull-tasks l =
    some_overfull (rows (reading_of l.self) (box_in l.self.root) (box_in l.self.view) (things l.self.items.now) l.tasks) (ends_of l.capacity)
    (rows (reading_of l.self) (box_in l.self.root) (box_in l.self.view) (things l.self.items.now) (drop l.task-index l.tasks))
    ≡ some_overfull (rows (reading_of l.self) (box_in l.self.root) (box_in l.self.view) (things l.self.items.now) l.tasks) (ends_of l.capacity)
    (rows (reading_of l.self) (box_in l.self.root) (box_in l.self.view) (things l.self.items.now) l.tasks)

abbrev pub invariant-all_sound-tasks : goal.invariant-all_sound-tasks
invariant-all_sound-tasks l = all_sound (rows (reading_of l.self) (box_in l.self.root) (box_in l.self.view) (things l.self.items.now) (drop l.task-index l.tasks)) ≡ all_sound
    (rows (reading_of l.self) (box_in l.self.root) (box_in l.self.view) (things l.self.items.now) l.tasks)

abbrev pub invariant-enough_at-tasks : goal.invariant-enough_at-tasks
invariant-enough_at-tasks l = HasRoom (most_asked l.time.number) l.capacity.low l.room.number
    (rows (reading_of l.self) (box_in l.self.root) (box_in l.self.view) (things l.self.items.now) (drop l.task-index l.tasks)) (rows (reading_of l.self) (box_in l.self.root) (box_in l.self.view) (things l.self.items.now) l.tasks)

abbrev pub invariant-all_enough-tasks : goal.invariant-all_enough-tasks
invariant-all_enough-tasks l =
    all_enough (rows (reading_of l.self) (box_in l.self.root) (box_in l.self.view) (things l.self.items.now) l.tasks) (ends_of l.capacity)
    (rows (reading_of l.self) (box_in l.self.root) (box_in l.self.view) (things l.self.items.now) (drop l.task-index l.tasks))
    ≡ all_enough (rows (reading_of l.self) (box_in l.self.root) (box_in l.self.view) (things l.self.items.now) l.tasks) (ends_of l.capacity)
    (rows (reading_of l.self) (box_in l.self.root) (box_in l.self.view) (things l.self.items.now) l.tasks)
