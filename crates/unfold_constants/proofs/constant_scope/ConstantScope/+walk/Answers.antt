-- The walk goes on from number to number.
use Rattle.std.proofs.Common.{rules, ◌≡◌, sym, subst, ◌∙◌, ◌<◌, map, length, get_or, None, Err}
use Rattle.sopl_ast.specs.Lists.{BinderTree, trees}
use Rattle.sopl_ast.specs.Ranges.{range_of}
use Rattle.sopl_ast.specs.References.{now_of}
use Rattle.unfold_tables.specs.Tables.{shown}
use Rattle.unfold_constants.specs.Choosing.{give_name, leave_name, open_in}
use Rattle.unfold_constants.specs.CountedAnswers.{Fails}
use Rattle.unfold_constants.specs.Evaluation.{range_numbers}
use Rattle.unfold_constants.specs.Here.{known_in}
use Rattle.unfold_constants.specs.Traversal as spec
use Rattle.unfold_constants.proofs.Choosing.{name_left, opens, refused, stops, turn, turn_fails}
use Rattle.unfold_constants.proofs.Entering.{walk_next}
use Rattle.unfold_constants.proofs.Growing.{walk_grows}
use Rattle.unfold_constants.proofs.constant_scope.ConstantScope.+walk.Goals as goal

-- what was counted is no less behind the body
pub walk_inside-returns-in_default-clause-grows : goal.walk_inside-returns-in_default-clause-grows
walk_inside-returns-in_default-clause-grows t c =
    walk_grows (known_in c.args.choices.now.here) (trees (map now_of c.args.body.now)) c.args.count.now.counted c.walk_body.new.count.counted c.in_ok-walk_body.ensures

-- the name of the next binder is opened
pub walk_inside-returns-clause-leads : goal.walk_inside-returns-clause-leads
walk_inside-returns-clause-leads t c =
    let b : BinderTree = record { name = c.binder.inside.name; at = c.binder.inside.at; range = range_of c.binder.inside.range } in
    let below : length (open_in c.args.choices.now) < length c.args.over.now = search rules in
    let at : b ≡ get_or c.args.over.now (length (open_in c.args.choices.now)) b = search rules in
    opens give_name leave_name name_left (spec.inside c.args.over.now (spec.walk_body (map now_of c.args.body.now)))
    (known_in c.args.choices.now.here) (open_in c.args.choices.now) tt c.args.count.now.counted (known_in c.open.new.self.here) (open_in c.open.new.self)
    c.binder.inside.name (range_numbers (known_in c.args.choices.now.here) None (range_of c.binder.inside.range)) (shown c.in_ok-numbers.numbers)
    c.range_numbers.new.count.counted
    (walk_next c.args.over.now (spec.walk_body (map now_of c.args.body.now)) (known_in c.args.choices.now.here) (length (open_in c.args.choices.now)) b below at)
    c.in_ok-numbers.ensures c.in_ok-open.ensures.here c.in_ok-open.ensures.opened

-- one value too many is counted
pub walk_over-returns-in_err-add : goal.walk_over-returns-in_err-add
walk_over-returns-in_err-add t c =
    let same : c.from_residual-in_err-add.result ≡ Err c.in_err-add.field-0.0 = search rules in
    refused _ _ _ c.in_err-add.field-0.0 _ same
    (subst (Fails c.in_err-add.field-0.0) c.choices.invariant
    (turn_fails give_name leave_name name_left (spec.inside c.args.over.now (spec.walk_body (map now_of c.args.body.now)))
    (known_in c.choices.choices.here) (open_in c.choices.choices) tt c.choices.count.counted c.in_ok-advance.field-0 _ _ c.in_err-add.field-0.0
    c.if-branch.true c.in_ok-advance.ensures c.in_err-add.ensures))

-- a number is taken, counted and walked through
pub walk_over-choices-preserved : goal.walk_over-choices-preserved
walk_over-choices-preserved t c =
    sym c.in_ok-walk_inside-2.ensures.leads
    ∙ sym (turn give_name leave_name name_left (spec.inside c.args.over.now (spec.walk_body (map now_of c.args.body.now)))
    (known_in c.choices.choices.here) (open_in c.choices.choices) tt c.choices.count.counted c.in_ok-advance.field-0 _ _ _
    c.if-branch.true c.in_ok-advance.ensures c.in_ok-add.ensures)
    ∙ c.choices.invariant

-- a fault inside
pub walk_over-returns-in_err-walk_inside-2 : goal.walk_over-returns-in_err-walk_inside-2
walk_over-returns-in_err-walk_inside-2 t c =
    let same : c.from_residual-in_err-walk_inside-2.result ≡ Err c.in_err-walk_inside-2.field-0.0 = search rules in
    refused _ _ _ c.in_err-walk_inside-2.field-0.0 _ same
    (subst (Fails c.in_err-walk_inside-2.field-0.0)
    (sym (turn give_name leave_name name_left (spec.inside c.args.over.now (spec.walk_body (map now_of c.args.body.now)))
    (known_in c.choices.choices.here) (open_in c.choices.choices) tt c.choices.count.counted c.in_ok-advance.field-0 _ _ _
    c.if-branch.true c.in_ok-advance.ensures c.in_ok-add.ensures)
    ∙ c.choices.invariant)
    c.in_err-walk_inside-2.ensures.leads)

-- no name has a number left
pub walk_over-returns : goal.walk_over-returns
walk_over-returns t c =
    sym c.choices.invariant
    ∙ stops give_name leave_name name_left (spec.inside c.args.over.now (spec.walk_body (map now_of c.args.body.now)))
    (known_in c.choices.choices.here) (open_in c.choices.choices) tt c.choices.count.counted c.in_ok-advance.field-0 _ _
    c.if-branch.false c.in_ok-advance.ensures
