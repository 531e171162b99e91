use Rattle.std.proofs.lemmas.Result.{err_from_is_err_and}
use Rattle.unfold_tables.specs.Tables.{elements_in}
use Rattle.unfold_declarations.specs.Declaring as spec
use Rattle.unfold_declarations.specs.Places.{give_dimension, leave_dimension}
use Rattle.unfold_declarations.specs.Shown.{dimensions_in, dimensions_open, prefix_in}
use Rattle.unfold_declarations.proofs.Walking.{dimension_left, goes_on, goes_wrong, stops, comes_nearer}
use Rattle.unfold_declarations.proofs.elements.fill.Goals as goal

pub walk-smaller : goal.walk-smaller
walk-smaller c =
    comes_nearer give_dimension leave_dimension (dimensions_in c.args.left.now.dimensions.now) c.in_ok-advance.field-0 (prefix_in c.walk.walk.prefix) (dimensions_open c.walk.walk) _ _ _
    c.in_ok-advance.ensures c.if-branch.true c.in_ok-enter-2.ensures.turns

pub walk-preserved : goal.walk-preserved
walk-preserved c =
    goes_on give_dimension leave_dimension dimension_left (spec.inside (dimensions_in c.args.left.now.dimensions.now) c.args.e.now) c.in_ok-advance.field-0 (prefix_in c.walk.walk.prefix) _
    (prefix_in c.enter-in-walk.new.walk.prefix) (dimensions_open c.walk.walk) _ (dimensions_open c.enter-in-walk.new.walk) (elements_in c.walk.found) (elements_in c.enter-in-walk.new.found)
    c.walk.count.counted c.enter-in-walk.new.count.counted _ c.walk.invariant c.in_ok-advance.ensures c.if-branch.true c.in_ok-enter-2.ensures.leads

pub returns-in_err-enter-2 : goal.returns-in_err-enter-2
returns-in_err-enter-2 c =
    let p = err_from_is_err_and c.from_residual-in_err-enter-2.result c.from_residual-in_err-enter-2.ensures.1 in
    rw (p.1, p.2)
    (goes_wrong give_dimension leave_dimension dimension_left (spec.inside (dimensions_in c.args.left.now.dimensions.now) c.args.e.now) c.in_ok-advance.field-0 (prefix_in c.walk.walk.prefix) _
    (dimensions_open c.walk.walk) _ (elements_in c.walk.found) c.walk.count.counted _ c.walk.invariant c.in_ok-advance.ensures c.if-branch.true c.in_err-enter-2.field-0.0
    c.in_err-enter-2.ensures.leads)

pub returns : goal.returns
returns c =
    stops give_dimension leave_dimension dimension_left (spec.inside (dimensions_in c.args.left.now.dimensions.now) c.args.e.now) c.in_ok-advance.field-0 (prefix_in c.walk.walk.prefix) _
    (dimensions_open c.walk.walk) _ (elements_in c.walk.found) c.walk.count.counted _ c.walk.invariant c.in_ok-advance.ensures c.if-branch.false
