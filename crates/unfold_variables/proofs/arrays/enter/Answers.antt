use Rattle.std.proofs.Common.{rules, ◌<◌, ◌≤◌, length}
use Rattle.std.proofs.lemmas.Result.{err_from_is_err_and}
use Rattle.unfold_declarations.specs.Shown.{dimensions_open, prefix_in}
use Rattle.unfold_declarations.proofs.Walking.{leads_inside, fails_inside, turns_open}
use Rattle.unfold_variables.proofs.Listed.{listed, by_dimension}
use Rattle.unfold_variables.proofs.arrays.enter.Goals as goal

pub returns-in_err-add-clause-leads : goal.returns-in_err-add-clause-leads
returns-in_err-add-clause-leads g c =
    let p = err_from_is_err_and c.from_residual.result c.from_residual.ensures.1 in
    let past : length c.args.left.now ≤ c.depth.result = search rules in
    rw (p.1, p.2)
    (fails_inside (listed (g.E.Element.step c.args.element.now)) (by_dimension (g.E.Element.step c.args.element.now)) c.args.left.now (prefix_in c.args.walk.now.prefix)
    (dimensions_open c.args.walk.now) c.depth.result c.args.found.now.items c.args.count.now.counted c.in_err-add.field-0.0 c.depth.ensures past c.in_err-add.ensures)

pub returns-clause-leads : goal.returns-clause-leads
returns-clause-leads g c =
    let below : c.depth.result < length c.args.left.now = search rules in
    leads_inside (listed (g.E.Element.step c.args.element.now)) (by_dimension (g.E.Element.step c.args.element.now)) c.args.left.now (prefix_in c.args.walk.now.prefix) _
    (dimensions_open c.args.walk.now) _ c.depth.result c.in-Some.dimension.now c.args.found.now.items c.args.count.now.counted c.depth.ensures below c.in-Some.ensures.lookup.1
    c.in_ok-begin.ensures.prefix c.in_ok-begin.ensures.kept

pub returns-clause-turns : goal.returns-clause-turns
returns-clause-turns g c =
    let below : c.depth.result < length c.args.left.now = search rules in
    turns_open c.args.left.now (dimensions_open c.args.walk.now) _ c.depth.result c.in-Some.dimension.now c.depth.ensures below c.in-Some.ensures.lookup.1 c.in_ok-begin.ensures.kept
