use Rattle.std.proofs.Common.{◌≡◌, ◌+◌, ◌*◌, ◌≤◌, drop}
use Rattle.term_math.specs.Shown.{box_in}
use Rattle.term_nodes.specs.Things.{conds_at, parts_at, tasks_at, term_at, terms_at, things}
use Rattle.term_language.specs.Mentions.{conds_mention, mentions, parts_mention, tasks_mention, terms_mention}
use Rattle.term_cells.specs.Cells.{left_mentions, with_cells}
use Rattle.term_cells.proofs.walk.Nodes.+term.Given as goal

abbrev pub decreases-both_conds : goal.decreases-both_conds
decreases-both_conds l = 4 * l.limit

abbrev pub decreases-both_terms : goal.decreases-both_terms
decreases-both_terms l = 4 * l.limit

abbrev pub decreases-cond : goal.decreases-cond
decreases-cond l = 4 * l.id + 3

abbrev pub decreases-conds : goal.decreases-conds
decreases-conds l = 4 * l.limit

abbrev pub decreases-element : goal.decreases-element
decreases-element l = 4 * l.limit + 1

abbrev pub decreases-first_and_later : goal.decreases-first_and_later
decreases-first_and_later l = 4 * l.limit + 1

abbrev pub decreases-others : goal.decreases-others
decreases-others l = 4 * l.id + 2

abbrev pub decreases-parts : goal.decreases-parts
decreases-parts l = 4 * l.limit

abbrev pub decreases-task : goal.decreases-task
decreases-task l = 4 * l.limit

abbrev pub decreases-tasks : goal.decreases-tasks
decreases-tasks l = 4 * l.limit + 1

abbrev pub decreases-tasks_and_capacity : goal.decreases-tasks_and_capacity
decreases-tasks_and_capacity l = 4 * l.limit + 2

abbrev pub decreases-term : goal.decreases-term
decreases-term l = 4 * l.id + 3

abbrev pub decreases-term-chain : goal.decreases-term-chain
decreases-term-chain l = l.at

abbrev pub decreases-terms : goal.decreases-terms
decreases-terms l = 4 * l.limit

abbrev pub invariant-conds-ids : goal.invariant-conds-ids
invariant-conds-ids l =
    with_cells l.cells.keys (conds_mention (box_in l.self.root) (conds_at (things l.self.items.now) (drop l.id-index l.ids)))
    ≡ with_cells l.fn.cells.keys (conds_mention (box_in l.self.root) (conds_at (things l.self.items.now) l.ids))

abbrev pub invariant-parts-parts : goal.invariant-parts-parts
invariant-parts-parts l =
    with_cells l.cells.keys (parts_mention (box_in l.self.root) (parts_at (things l.self.items.now) (drop l.part-index l.parts)))
    ≡ with_cells l.fn.cells.keys (parts_mention (box_in l.self.root) (parts_at (things l.self.items.now) l.parts))

abbrev pub invariant-tasks-tasks : goal.invariant-tasks-tasks
invariant-tasks-tasks l =
    with_cells l.cells.keys (tasks_mention (box_in l.self.root) (tasks_at (things l.self.items.now) (drop l.task-index l.tasks)))
    ≡ with_cells l.fn.cells.keys (tasks_mention (box_in l.self.root) (tasks_at (things l.self.items.now) l.tasks))

abbrev pub invariant-terms-ids : goal.invariant-terms-ids
invariant-terms-ids l =
    with_cells l.cells.keys (terms_mention (box_in l.self.root) (terms_at (things l.self.items.now) (drop l.id-index l.ids)))
    ≡ with_cells l.fn.cells.keys (terms_mention (box_in l.self.root) (terms_at (things l.self.items.now) l.ids))

abbrev pub invariant-term-chain : goal.invariant-term-chain
invariant-term-chain l =
    (l.at ≤ l.id)
    × (with_cells l.cells.keys (left_mentions (box_in l.self.root) (term_at (things l.self.items.now) l.at))
    ≡ with_cells l.fn.cells.keys (mentions (box_in l.self.root) (term_at (things l.self.items.now) l.id)))
