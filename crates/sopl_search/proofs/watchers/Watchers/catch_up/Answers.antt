use Rattle.std.proofs.Common.{◌≡◌, ◌<◌, ◌+◌, ◌∙◌, arith, length, of_z, rules, to_z, w64, SFits}
use Rattle.sopl_base.proofs.Sizes.{same_small}
use Rattle.box_problem.specs.Box.{high, low}
use Rattle.sopl_search.specs.Following.{followed_box}
use Rattle.sopl_search.proofs.Followed.{IsMixed, all_mixed, follows_all, follows_more, more_mixed}
use Rattle.sopl_search.proofs.watchers.Watchers.catch_up.Goals as goal

pub cells-preserved : goal.cells-preserved
cells-preserved g c =
    let inv = c.cells.invariant in
    let low_there : c.cells.cell < length c.cells.self.lows.items = omega (arith, inv.mixed.lows_long, c.requires.lows, c.cells-test.true, c.cells-cell-end.ensures.count) in
    let high_there : c.cells.cell < length c.cells.self.highs.items =
    omega (arith, inv.mixed.highs_long, c.requires.highs, c.cells-test.true, c.cells-cell-end.ensures.count, c.cells-cell-end.ensures.is_box.paired) in
    let lo_fits : SFits w64 c.lo.result = search rules in
    let hi_fits : SFits w64 c.hi.result = search rules in
    let lo_is : to_z w64 (of_z w64 c.lo.result) ≡ low c.args.store.now.box c.cells.cell = same_small c.lo.result lo_fits ∙ c.lo.ensures in
    let hi_is : to_z w64 (of_z w64 c.hi.result) ≡ high c.args.store.now.box c.cells.cell = same_small c.hi.result hi_fits ∙ c.hi.ensures in
    let more : IsMixed (c.cells.cell + 1) (followed_box c.args.self.now) c.args.store.now.box (followed_box c.move_cell.new.self) =
    more_mixed c.cells.cell (followed_box c.args.self.now) c.args.store.now.box (followed_box c.cells.self) (followed_box c.move_cell.new.self) (to_z w64 (of_z w64 c.lo.result)) (to_z w64 (of_z w64 c.hi.result))
    low_there high_there lo_is hi_is c.move_cell.ensures.ends inv.mixed in
    record {
      mixed = more;
      in_step = follows_more g.P.Propagator.problem g.P.Propagator.fits g.P.Propagator.in_step c.cells.cell (followed_box c.args.self.now) c.args.store.now.box (followed_box c.cells.self)
          (followed_box c.move_cell.new.self) c.args.self.now.list.items c.cells.self.list.items c.move_cell.new.self.list.items inv.mixed more inv.still_fit inv.in_step c.move_cell.ensures.in_step;
      watch = c.move_cell.ensures.watch ∙ inv.watch;
      same_reasons = c.move_cell.ensures.same_reasons ∙ inv.same_reasons;
      same_watches = c.move_cell.ensures.same_watches ∙ inv.same_watches;
      still_fit = λ program fit. c.move_cell.ensures.still_fit program (inv.still_fit program fit);
    }

pub returns-clause-ends : goal.returns-clause-ends
returns-clause-ends g c =
    all_mixed c.cells.cell (followed_box c.args.self.now) c.args.store.now.box (followed_box c.cells.self) c.requires.lows c.requires.highs
    (omega (arith, c.cells-test.false, c.cells-cell-end.ensures.count)) (omega (arith, c.cells-test.false, c.cells-cell-end.ensures.count, c.cells-cell-end.ensures.is_box.paired))
    c.cells.invariant.mixed

pub returns-clause-in_step : goal.returns-clause-in_step
returns-clause-in_step g c =
    follows_all g.P.Propagator.problem g.P.Propagator.fits g.P.Propagator.in_step (followed_box c.args.self.now) c.args.store.now.box (followed_box c.cells.self) c.args.self.now.list.items
    c.cells.self.list.items
    (all_mixed c.cells.cell (followed_box c.args.self.now) c.args.store.now.box (followed_box c.cells.self) c.requires.lows c.requires.highs
    (omega (arith, c.cells-test.false, c.cells-cell-end.ensures.count)) (omega (arith, c.cells-test.false, c.cells-cell-end.ensures.count, c.cells-cell-end.ensures.is_box.paired))
    c.cells.invariant.mixed)
    c.cells.invariant.in_step
