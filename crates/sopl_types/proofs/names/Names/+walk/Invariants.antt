-- Each loop has found the first mistake of the elements so far; and each call goes down in weight.
use Rattle.std.proofs.Common.{◌≡◌, ◌+◌, ◌*◌, drop}
use Rattle.sopl_ast.specs.Lists.{trees, terms, factors, binders}
use Rattle.sopl_ast.specs.Ranges.{range_of}
use Rattle.sopl_ast.specs.Mistakes.{of_numbers, of_conditions, of_terms, of_factors, of_binders, bind}
use Rattle.sopl_ast.specs.Weight.{weight, weight_of_trees, weight_of_terms, weight_factors, weight_of_binder, weight_of_binders, weight_range}
use Rattle.sopl_types.specs.Earliest.{earlier_of, earliest}
use Rattle.sopl_types.specs.Known.{known_in}
use Rattle.sopl_types.proofs.names.Names.+walk.Given as goal

abbrev pub invariant-numbers-parts : goal.invariant-numbers-parts
invariant-numbers-parts l =
    earlier_of l.first (earliest (of_numbers (known_in l.self) l.constant (trees (drop l.part-index l.parts))))
    ≡ earliest (of_numbers (known_in l.self) l.constant (trees l.parts))

abbrev pub invariant-conditions-parts : goal.invariant-conditions-parts
invariant-conditions-parts l =
    earlier_of l.first (earliest (of_conditions (known_in l.self) l.constant (trees (drop l.part-index l.parts))))
    ≡ earliest (of_conditions (known_in l.self) l.constant (trees l.parts))

abbrev pub invariant-terms-parts : goal.invariant-terms-parts
invariant-terms-parts l =
    earlier_of l.first (earliest (of_terms (known_in l.self) l.constant (terms (drop l.part-index l.parts))))
    ≡ earliest (of_terms (known_in l.self) l.constant (terms l.parts))

abbrev pub invariant-factors-parts : goal.invariant-factors-parts
invariant-factors-parts l =
    earlier_of l.first (earliest (of_factors (known_in l.self) l.constant (factors (drop l.part-index l.parts))))
    ≡ earliest (of_factors (known_in l.self) l.constant (factors l.parts))

abbrev pub invariant-bind-over : goal.invariant-bind-over
invariant-bind-over l = record {
  names : bind (binders (drop l.binder-index l.over)) (known_in l.names) ≡ bind (binders l.over) (known_in l.self);
  mistakes : earlier_of l.first (earliest (of_binders (known_in l.names) (binders (drop l.binder-index l.over))))
      ≡ earliest (of_binders (known_in l.self) (binders l.over));
}

abbrev pub decreases-number : goal.decreases-number
decreases-number l = 3 * weight l.e.now

abbrev pub decreases-condition : goal.decreases-condition
decreases-condition l = 3 * weight l.e.now + 1

abbrev pub decreases-triple : goal.decreases-triple
decreases-triple l = 3 * (weight l.a.now + weight l.b.now + weight l.c.now) + 1

abbrev pub decreases-under : goal.decreases-under
decreases-under l = 3 * (weight_of_binders l.over.now + weight l.e.now) + 1

abbrev pub decreases-numbers : goal.decreases-numbers
decreases-numbers l = 3 * weight_of_trees l.parts.now

abbrev pub decreases-conditions : goal.decreases-conditions
decreases-conditions l = 3 * weight_of_trees l.parts.now

abbrev pub decreases-terms : goal.decreases-terms
decreases-terms l = 3 * weight_of_terms l.parts.now

abbrev pub decreases-factors : goal.decreases-factors
decreases-factors l = 3 * weight_factors (factors l.parts.now)

abbrev pub decreases-factor : goal.decreases-factor
decreases-factor l = 3 * weight l.part.now.1 + 1

abbrev pub decreases-bind : goal.decreases-bind
decreases-bind l = 3 * weight_of_binders l.over.now

abbrev pub decreases-binder : goal.decreases-binder
decreases-binder l = 3 * weight_of_binder l.binder.now

abbrev pub decreases-range : goal.decreases-range
decreases-range l = 3 * weight_range (range_of l.range.now)
