use Rattle.std.proofs.Common.{◌∙◌, drop, length, of_z, rules, to_z, w64, SFits}
use Rattle.sopl_base.proofs.Sizes.{same_small}
use Rattle.sopl_search.specs.Following.{followed_box, with_ends}
use Rattle.sopl_search.proofs.Followed.{agree_elsewhere, lent_follows, own_ends}
use Rattle.sopl_search.proofs.watchers.Watchers.move_cell.Goals as goal

pub returns-then-has_ends-clause-ends : goal.returns-then-has_ends-clause-ends
returns-then-has_ends-clause-ends g c =
    let lo_fits : SFits w64 c.args.lo = search rules in
    let hi_fits : SFits w64 c.args.hi = search rules in
    own_ends (followed_box c.args.self.now) c.args.cell c.args.lo c.args.hi (c.has_ends.ensures.low c.if-has_ends.true ∙ same_small c.args.lo lo_fits)
    (c.has_ends.ensures.high c.if-has_ends.true ∙ same_small c.args.hi hi_fits)

pub returns-clause-in_step : goal.returns-clause-in_step
returns-clause-in_step g c =
    let lo = to_z w64 (of_z w64 c.args.lo) in
    let hi = to_z w64 (of_z w64 c.args.hi) in
    lent_follows g.P.Propagator.problem g.P.Propagator.fits g.P.Propagator.in_step c.args.cell (followed_box c.args.self.now) (with_ends (followed_box c.args.self.now) c.args.cell lo hi)
    c.args.self.now.list.items c.as_mut_slice.result.now c.touch.new.list (drop (length c.touch.new.list) c.args.self.now.list.items) c.args.self.now.list.len
    c.as_mut_slice.ensures.value (c.touch.auto.list ∙ c.as_mut_slice.ensures.len) (agree_elsewhere (followed_box c.args.self.now) c.args.cell lo hi) c.touch.ensures.in_step
