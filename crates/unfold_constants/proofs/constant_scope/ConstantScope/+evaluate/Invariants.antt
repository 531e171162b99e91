-- Each loop has evaluated the parts so far; and each call goes down in weight.
use Rattle.std.proofs.Common.{◌≡◌, ◌+◌, ◌-◌, ◌*◌, ◌≤◌, [], drop, map, pos, unsigned_abs}
use Rattle.sopl_ast.specs.Lists.{trees, terms, factors, binders}
use Rattle.sopl_ast.specs.Ranges.{range_of}
use Rattle.sopl_ast.specs.Sight.{shape_of_kind}
use Rattle.sopl_ast.specs.Weight.{weight, weight_shape, weight_of_trees, weight_of_terms, weight_factors, weight_of_binders, weight_range}
use Rattle.sopl_ast.specs.UnfoldEvents.{most_counted}
use Rattle.sopl_ast.specs.References.{now_of}
use Rattle.unfold_constants.specs.Here.{known_in}
use Rattle.unfold_constants.proofs.Body.{weight_of_body}
use Rattle.unfold_constants.specs.Choosing.{give_name, leave_name, open_in, remaining}
use Rattle.unfold_constants.specs.Evaluation as spec
use Rattle.unfold_constants.proofs.constant_scope.ConstantScope.+evaluate.Given as goal

abbrev pub invariant-numbers-parts : goal.invariant-numbers-parts
invariant-numbers-parts l =
    spec.numbers (known_in l.self) l.whole l.found.items (trees (drop l.part-index l.parts)) l.count.counted
    ≡ spec.numbers (known_in l.self) l.whole [] (trees l.parts) l.fn.count.counted

abbrev pub invariant-product-parts : goal.invariant-product-parts
invariant-product-parts l =
    spec.product (known_in l.self) l.whole l.product (factors (drop l.part-index l.parts.others)) l.count.counted
    ≡ spec.whole_product (known_in l.self) l.whole l.parts.first (factors l.parts.others) l.fn.count.counted

abbrev pub decreases-number : goal.decreases-number
decreases-number l = 4 * weight l.e.now + 1

abbrev pub decreases-untested : goal.decreases-untested
decreases-untested l = 4 * weight_shape (shape_of_kind l.kind.now)

abbrev pub decreases-numbers : goal.decreases-numbers
decreases-numbers l = 4 * weight_of_trees l.parts.now

abbrev pub decreases-product : goal.decreases-product
decreases-product l = 4 * (weight l.parts.now.first + weight_factors (factors l.parts.now.others)) + 2

abbrev pub decreases-multiplied : goal.decreases-multiplied
decreases-multiplied l = 4 * weight l.part.now.1 + 2

abbrev pub invariant-sum-parts : goal.invariant-sum-parts
invariant-sum-parts l = record {
  value : spec.sum (known_in l.self) l.whole l.total.value (terms (drop l.part-index l.parts)) l.count.counted
      ≡ spec.sum (known_in l.self) l.whole (pos 0) (terms l.parts) l.fn.count.counted;
  bound : unsigned_abs l.total.value ≤ 1099511627776 * l.part-index;
}

abbrev pub decreases-sum : goal.decreases-sum
decreases-sum l = 4 * weight_of_terms l.parts.now

abbrev pub decreases-element : goal.decreases-element
decreases-element l = 4 * weight_of_trees l.parts.now + 1

abbrev pub decreases-compared : goal.decreases-compared
decreases-compared l = 4 * weight l.a.now + 4 * weight l.b.now + 2

abbrev pub decreases-all : goal.decreases-all
decreases-all l = 4 * weight_of_trees l.parts.now + 1

abbrev pub decreases-some : goal.decreases-some
decreases-some l = 4 * weight_of_trees l.parts.now + 1

abbrev pub decreases-implied : goal.decreases-implied
decreases-implied l = 4 * weight l.a.now + 4 * weight l.b.now + 2

abbrev pub decreases-selected : goal.decreases-selected
decreases-selected l = 4 * weight_of_trees l.parts.now + 1

abbrev pub decreases-summed : goal.decreases-summed
decreases-summed l = 4 * weight_of_binders l.over.now + 4 * weight l.e.now + 5

abbrev pub decreases-differ : goal.decreases-differ
decreases-differ l = 4 * weight_of_binders l.over.now + 4 * weight l.e.now + 5

abbrev pub decreases-each_of : goal.decreases-each_of
decreases-each_of l = 4 * weight_of_body l.body.now.parts.now + 2

abbrev pub decreases-range_numbers : goal.decreases-range_numbers
decreases-range_numbers l = 4 * weight_range (range_of l.range.now) + 2

abbrev pub decreases-fit : goal.decreases-fit
decreases-fit l =
    4 * weight_of_binders l.over.now + 4 * (weight l.task.now.start.now + weight l.task.now.duration.now + weight l.task.now.demand.now) + 4 * weight l.capacity.now + 6

abbrev pub decreases-task_numbers : goal.decreases-task_numbers
decreases-task_numbers l =
    4 * weight_of_binders l.over.now + 4 * (weight l.task.now.start.now + weight l.task.now.duration.now + weight l.task.now.demand.now) + 5

abbrev pub invariant-each_of-body : goal.invariant-each_of-body
invariant-each_of-body l =
    spec.numbers (known_in l.self) l.body.whole l.found.items (trees (map now_of (drop l.part-index l.body.parts.now))) l.count.counted
    ≡ spec.numbers (known_in l.self) l.body.whole l.fn.found.items (trees (map now_of l.body.parts.now)) l.fn.count.counted

abbrev pub decreases-ends : goal.decreases-ends
decreases-ends l = 4 * (weight l.lo.now + weight l.hi.now) + 3

abbrev pub decreases-over : goal.decreases-over
decreases-over l = 4 * weight_of_binders l.over.now + 4 * weight_of_body l.body.now.parts.now + 4

abbrev pub invariant-over-choices : goal.invariant-over-choices
invariant-over-choices l =
    remaining give_name leave_name (spec.inside l.body.whole l.over (spec.each_of l.body.whole (map now_of l.body.parts.now))) (known_in l.choices.here) (open_in l.choices)
    l.found.items l.count.counted
    ≡ spec.over (known_in l.self) l.body.whole (binders l.over) (spec.each_of l.body.whole (map now_of l.body.parts.now)) l.fn.found.items l.fn.count.counted

abbrev pub decreases-over-choices : goal.decreases-over-choices
decreases-over-choices l = most_counted - l.count.counted

abbrev pub decreases-enter : goal.decreases-enter
decreases-enter l = 4 * weight_of_binders l.over.now + 4 * weight_of_body l.body.now.parts.now + 3
