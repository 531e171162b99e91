-- The walk over binders goes on from number to number.
use Rattle.std.proofs.Common.{rules, ◌≡◌, sym, subst, ◌∙◌, ◌<◌, length, get_or, None, Err}
use Rattle.sopl_ast.specs.Constraints.{cons_tree}
use Rattle.sopl_ast.specs.Lists.{BinderTree}
use Rattle.sopl_ast.specs.Ranges.{range_of}
use Rattle.unfold_tables.specs.Tables.{shown}
use Rattle.unfold_constants.specs.Choosing.{give_name, leave_name, open_in}
use Rattle.unfold_constants.specs.CountedAnswers.{Fails}
use Rattle.unfold_constants.specs.Evaluation.{range_numbers}
use Rattle.unfold_constants.specs.Here.{known_in}
use Rattle.unfold_constants.proofs.Choosing.{name_left, opens, refused, stops, turn, turn_fails}
use Rattle.unfold_constraints.specs.Shown.{found_in}
use Rattle.unfold_constraints.specs.Stepping as spec
use Rattle.unfold_constraints.proofs.Entering.{part_next}
use Rattle.unfold_constraints.proofs.place.Place.+constraint.Goals as goal

-- the name of the next binder is opened
pub enter-returns-clause-leads : goal.enter-returns-clause-leads
enter-returns-clause-leads t c =
    let b : BinderTree = record { name = c.binder.inside.name; at = c.binder.inside.at; range = range_of c.binder.inside.range } in
    let below : length (open_in c.args.choices.now) < length c.args.over.now = search rules in
    let at : b ≡ get_or c.args.over.now (length (open_in c.args.choices.now)) b = search rules in
    opens give_name leave_name name_left (spec.inside c.args.over.now (spec.part c.args.part.now.first (cons_tree c.args.part.now.constraint.now)))
    (known_in c.args.choices.now.here) (open_in c.args.choices.now) (found_in c.args.found.now) c.args.count.now.counted (known_in c.open.new.self.here) (open_in c.open.new.self)
    c.binder.inside.name (range_numbers (known_in c.args.choices.now.here) None (range_of c.binder.inside.range)) (shown c.in_ok-numbers.numbers)
    c.numbers_at.new.count.counted
    (part_next c.args.over.now (spec.part c.args.part.now.first (cons_tree c.args.part.now.constraint.now)) (known_in c.args.choices.now.here)
    (found_in c.args.found.now) (length (open_in c.args.choices.now)) b below at)
    c.in_ok-numbers.ensures c.in_ok-open.ensures.here c.in_ok-open.ensures.opened

-- one value too many is counted
pub over-returns-in_err-add : goal.over-returns-in_err-add
over-returns-in_err-add t c =
    let same : c.from_residual-in_err-add.result ≡ Err c.in_err-add.field-0.0 = search rules in
    refused _ _ _ c.in_err-add.field-0.0 _ same
    (subst (Fails c.in_err-add.field-0.0) c.choices.invariant
    (turn_fails give_name leave_name name_left (spec.inside c.args.over.now (spec.part c.args.part.now.first (cons_tree c.args.part.now.constraint.now)))
    (known_in c.choices.choices.here) (open_in c.choices.choices) (found_in c.choices.found) c.choices.count.counted c.in_ok-advance.field-0 _ _ c.in_err-add.field-0.0
    c.if-branch.true c.in_ok-advance.ensures c.in_err-add.ensures))

-- a number is taken, counted and entered
pub over-choices-preserved : goal.over-choices-preserved
over-choices-preserved t c =
    sym c.in_ok-enter-2.ensures.leads
    ∙ sym (turn give_name leave_name name_left (spec.inside c.args.over.now (spec.part c.args.part.now.first (cons_tree c.args.part.now.constraint.now)))
    (known_in c.choices.choices.here) (open_in c.choices.choices) (found_in c.choices.found) c.choices.count.counted c.in_ok-advance.field-0 _ _ _
    c.if-branch.true c.in_ok-advance.ensures c.in_ok-add.ensures)
    ∙ c.choices.invariant

-- a fault inside
pub over-returns-in_err-enter-2 : goal.over-returns-in_err-enter-2
over-returns-in_err-enter-2 t c =
    let same : c.from_residual-in_err-enter-2.result ≡ Err c.in_err-enter-2.field-0.0 = search rules in
    refused _ _ _ c.in_err-enter-2.field-0.0 _ same
    (subst (Fails c.in_err-enter-2.field-0.0)
    (sym (turn give_name leave_name name_left (spec.inside c.args.over.now (spec.part c.args.part.now.first (cons_tree c.args.part.now.constraint.now)))
    (known_in c.choices.choices.here) (open_in c.choices.choices) (found_in c.choices.found) c.choices.count.counted c.in_ok-advance.field-0 _ _ _
    c.if-branch.true c.in_ok-advance.ensures c.in_ok-add.ensures)
    ∙ c.choices.invariant)
    c.in_err-enter-2.ensures.leads)

-- no name has a number left
pub over-returns : goal.over-returns
over-returns t c =
    sym c.choices.invariant
    ∙ stops give_name leave_name name_left (spec.inside c.args.over.now (spec.part c.args.part.now.first (cons_tree c.args.part.now.constraint.now)))
    (known_in c.choices.choices.here) (open_in c.choices.choices) (found_in c.choices.found) c.choices.count.counted c.in_ok-advance.field-0 _ _
    c.if-branch.false c.in_ok-advance.ensures
