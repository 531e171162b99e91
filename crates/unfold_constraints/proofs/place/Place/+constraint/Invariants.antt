-- Each loop has found the instances so far; and each call goes down in weight.
use Rattle.std.proofs.Common.{◌≡◌, ◌+◌, ◌-◌, ◌*◌, drop, map}
use Rattle.sopl_ast.specs.Constraints.{cons_tree}
use Rattle.sopl_ast.specs.Lists.{binders}
use Rattle.sopl_ast.specs.Weight.{weight_of_binders}
use Rattle.sopl_ast.specs.Whole.{conses}
use Rattle.sopl_ast.specs.WholeWeight.{weight_cons, weight_conses}
use Rattle.sopl_ast.specs.UnfoldEvents.{most_counted}
use Rattle.unfold_constants.specs.Choosing.{give_name, leave_name, open_in, remaining}
use Rattle.unfold_constants.specs.Here.{known_in}
use Rattle.unfold_constraints.specs.Shown.{found_in}
use Rattle.unfold_constraints.specs.Stepping as spec
use Rattle.unfold_constraints.proofs.place.Place.+constraint.Given as goal

abbrev pub decreases-constraint : goal.decreases-constraint
decreases-constraint l = 4 * weight_cons (cons_tree l.constraint.now) + 1

abbrev pub decreases-constraints : goal.decreases-constraints
decreases-constraints l = 4 * weight_conses (conses (map cons_tree l.parts.now))

abbrev pub decreases-forall : goal.decreases-forall
decreases-forall l = 4 * weight_of_binders l.over.now + 4 * weight_cons (cons_tree l.constraint.now) + 4

abbrev pub decreases-over : goal.decreases-over
decreases-over l = 4 * weight_of_binders l.over.now + 4 * weight_cons (cons_tree l.part.now.constraint.now) + 3

abbrev pub invariant-constraints-parts : goal.invariant-constraints-parts
invariant-constraints-parts l =
    spec.constraints (known_in l.self.known.now) l.next (conses (map cons_tree (drop l.part-index l.parts))) (found_in l.found) l.count.counted
    ≡ spec.constraints (known_in l.self.known.now) l.fn.first (conses (map cons_tree l.parts)) (found_in l.fn.found) l.fn.count.counted

abbrev pub invariant-over-choices : goal.invariant-over-choices
invariant-over-choices l =
    remaining give_name leave_name (spec.inside l.over (spec.part l.part.first (cons_tree l.part.constraint.now))) (known_in l.choices.here) (open_in l.choices)
    (found_in l.found) l.count.counted
    ≡ spec.over (known_in l.self.known.now) (binders l.over) (spec.part l.part.first (cons_tree l.part.constraint.now)) (found_in l.fn.found) l.fn.count.counted

abbrev pub decreases-over-choices : goal.decreases-over-choices
decreases-over-choices l = most_counted - l.count.counted

abbrev pub decreases-enter : goal.decreases-enter
decreases-enter l = 4 * weight_of_binders l.over.now + 4 * weight_cons (cons_tree l.part.now.constraint.now) + 2
