use Rattle.std.proofs.Common.{◌≡◌, ◌+◌, ◌*◌, ◌++◌, length, drop}
use Rattle.compile_names.specs.Kept.{places_behind}
use Rattle.compile_names.proofs.Ordering.{each_behind}
use Rattle.compile_names.proofs.first_places.Places.+list.Given as goal

abbrev pub decreases-list : goal.decreases-list
decreases-list l = 3 * length l.sets.now + 1

abbrev pub decreases-list_first : goal.decreases-list_first
decreases-list_first l = 3 * length l.sets.now

abbrev pub decreases-list_behind : goal.decreases-list_behind
decreases-list_behind l = 3 * length l.later.now + 2

abbrev pub invariant-list_first-set : goal.invariant-list_first-set
invariant-list_first-set l =
    (l.index.items ≡ l.fn.index.items)
    × (l.order.items ++ each_behind l.self l.fn.index.items l.later (drop l.number-index l.number-items) ≡ l.fn.order.items ++ places_behind l.self l.fn.index.items l.sets)
