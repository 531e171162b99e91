use Rattle.std.proofs.Common.{rules, ◌≡◌, sym, ap, subst, ◌∙◌, map, length, get_or, ◌<◌, Some, Err, w64, SFits}
use Rattle.std.proofs.lemmas.Int.{to_z-of_z}
use Rattle.std.specs.Option.{unwrap_or}
use Rattle.sopl_ast.specs.Tree.{place_of}
use Rattle.sopl_ast.specs.Lists.{BinderTree}
use Rattle.sopl_ast.specs.Ranges.{range_of}
use Rattle.sopl_ast.specs.References.{now_of}
use Rattle.unfold_tables.specs.Tables.{shown}
use Rattle.unfold_constants.specs.Choosing.{give_name, leave_name, open_in}
use Rattle.unfold_constants.specs.CountedAnswers.{Fails}
use Rattle.unfold_constants.specs.Evaluation.{each_of, inside, range_numbers}
use Rattle.unfold_constants.specs.Here.{known_in}
use Rattle.unfold_constants.proofs.Entering.{number_next}
use Rattle.unfold_constants.proofs.Choosing.{name_left, opens, refused, stops, turn, turn_fails}
use Rattle.unfold_constants.proofs.Outcomes.{ends_found}
use Rattle.unfold_constants.proofs.constant_scope.ConstantScope.+evaluate.Goals as goal

-- both ends, and how many numbers lie between them
pub ends-returns : goal.ends-returns
ends-returns t c =
    let lower : c.unwrap_or.result ≡ unwrap_or c.args.whole (place_of c.args.lo.now) = c.unwrap_or.ensures ∙ ap (λ tree. unwrap_or c.args.whole (place_of tree)) c.lo.view_is in
    let upper : c.unwrap_or-2.result ≡ unwrap_or c.args.whole (place_of c.args.hi.now) = c.unwrap_or-2.ensures ∙ ap (λ tree. unwrap_or c.args.whole (place_of tree)) c.hi.view_is in
    let fits_least : SFits w64 c.in_ok-least.least = search rules in
    let fits_greatest : SFits w64 c.in_ok-greatest.greatest = search rules in
    ends_found c.checked_ends.result (known_in c.args.self.now) c.args.whole c.args.lo.now c.args.hi.now c.unwrap_or.result c.unwrap_or-2.result c.in_ok-least.least
    c.in_ok-greatest.greatest _ _ c.args.count.now.counted c.number.new.count.counted c.number-2.new.count.counted lower upper c.in_ok-least.ensures.value
    c.in_ok-greatest.ensures.value (to_z-of_z w64 c.in_ok-least.least fits_least) (to_z-of_z w64 c.in_ok-greatest.greatest fits_greatest) (c.checked_ends.ensures c.number-2.new.count.counted)

-- the name of the next binder is opened
pub enter-returns-clause-leads : goal.enter-returns-clause-leads
enter-returns-clause-leads t c =
    let b : BinderTree = record { name = c.binder.inside.name; at = c.binder.inside.at; range = range_of c.binder.inside.range } in
    let below : length (open_in c.args.choices.now) < length c.args.over.now = search rules in
    let at : b ≡ get_or c.args.over.now (length (open_in c.args.choices.now)) b = search rules in
    opens give_name leave_name name_left (inside c.args.body.now.whole c.args.over.now (each_of c.args.body.now.whole (map now_of c.args.body.now.parts.now)))
    (known_in c.args.choices.now.here) (open_in c.args.choices.now) c.args.found.now.items c.args.count.now.counted (known_in c.open.new.self.here) (open_in c.open.new.self)
    c.binder.inside.name (range_numbers (known_in c.args.choices.now.here) (Some c.args.body.now.whole) (range_of c.binder.inside.range)) (shown c.in_ok-numbers.numbers)
    c.range_numbers.new.count.counted
    (number_next c.args.body.now.whole c.args.over.now (each_of c.args.body.now.whole (map now_of c.args.body.now.parts.now)) (known_in c.args.choices.now.here) c.args.found.now.items
    (length (open_in c.args.choices.now)) b below at)
    c.in_ok-numbers.ensures c.in_ok-open.ensures.here c.in_ok-open.ensures.opened

-- one value too many is counted
pub over-returns-in_err-add : goal.over-returns-in_err-add
over-returns-in_err-add t c =
    let same : c.from_residual-in_err-add.result ≡ Err c.in_err-add.field-0.0 = search rules in
    refused _ _ _ c.in_err-add.field-0.0 _ same
    (subst (Fails c.in_err-add.field-0.0) c.choices.invariant
    (turn_fails give_name leave_name name_left (inside c.args.body.now.whole c.args.over.now (each_of c.args.body.now.whole (map now_of c.args.body.now.parts.now)))
    (known_in c.choices.choices.here) (open_in c.choices.choices) c.choices.found.items c.choices.count.counted c.in_ok-advance.field-0 _ _ c.in_err-add.field-0.0
    c.if-branch.true c.in_ok-advance.ensures c.in_err-add.ensures))

-- a number is taken, counted and entered
pub over-choices-preserved : goal.over-choices-preserved
over-choices-preserved t c =
    sym c.in_ok-enter-2.ensures.leads
    ∙ sym (turn give_name leave_name name_left (inside c.args.body.now.whole c.args.over.now (each_of c.args.body.now.whole (map now_of c.args.body.now.parts.now)))
    (known_in c.choices.choices.here) (open_in c.choices.choices) c.choices.found.items c.choices.count.counted c.in_ok-advance.field-0 _ _ _
    c.if-branch.true c.in_ok-advance.ensures c.in_ok-add.ensures)
    ∙ c.choices.invariant

-- a fault inside
pub over-returns-in_err-enter-2 : goal.over-returns-in_err-enter-2
over-returns-in_err-enter-2 t c =
    let same : c.from_residual-in_err-enter-2.result ≡ Err c.in_err-enter-2.field-0.0 = search rules in
    refused _ _ _ c.in_err-enter-2.field-0.0 _ same
    (subst (Fails c.in_err-enter-2.field-0.0)
    (sym (turn give_name leave_name name_left (inside c.args.body.now.whole c.args.over.now (each_of c.args.body.now.whole (map now_of c.args.body.now.parts.now)))
    (known_in c.choices.choices.here) (open_in c.choices.choices) c.choices.found.items c.choices.count.counted c.in_ok-advance.field-0 _ _ _
    c.if-branch.true c.in_ok-advance.ensures c.in_ok-add.ensures)
    ∙ c.choices.invariant)
    c.in_err-enter-2.ensures.leads)

-- no name has a number left
pub over-returns : goal.over-returns
over-returns t c =
    sym c.choices.invariant
    ∙ stops give_name leave_name name_left (inside c.args.body.now.whole c.args.over.now (each_of c.args.body.now.whole (map now_of c.args.body.now.parts.now)))
    (known_in c.choices.choices.here) (open_in c.choices.choices) c.choices.found.items c.choices.count.counted c.in_ok-advance.field-0 _ _
    c.if-branch.false c.in_ok-advance.ensures
