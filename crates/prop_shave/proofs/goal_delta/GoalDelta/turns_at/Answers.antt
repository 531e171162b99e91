use Rattle.std.proofs.Common.{◌∙◌, arith, refl}
use Rattle.std.proofs.lemmas.Int.{ints}
use Rattle.box_problem.specs.Box.{high, low}
use Rattle.prop_shave.specs.GoalSums.{parts_over}
use Rattle.prop_shave.proofs.AtEnds.{turned_at}
use Rattle.prop_shave.proofs.goal_delta.GoalDelta.turns_at.Goals as goal

pub turn_with-requires-clause-from_low : goal.turn_with-requires-clause-from_low
turn_with-requires-clause-from_low c =
    let bottom = c.requires.inside.from_low c.args.self.now.cell c.requires.exists in
    let is = c.low_alone.ensures.low in
    omega (arith, ints, bottom, is, c.requires.lo)

pub turn_with-requires-clause-to_high : goal.turn_with-requires-clause-to_high
turn_with-requires-clause-to_high c =
    let order = c.requires.inside.is_box.ordered c.args.self.now.cell c.requires.exists in
    let top = c.requires.inside.to_high c.args.self.now.cell c.requires.exists in
    let is = c.low_alone.ensures.high in
    omega (arith, ints, order, top, is, c.requires.lo)

pub turn_with-requires-2-clause-from_low : goal.turn_with-requires-2-clause-from_low
turn_with-requires-2-clause-from_low c =
    let bottom = c.requires.inside.from_low c.args.self.now.cell c.requires.exists in
    let order = c.requires.inside.is_box.ordered c.args.self.now.cell c.requires.exists in
    let is = c.high_alone.ensures.low in
    omega (arith, ints, bottom, order, is, c.requires.hi)

pub turn_with-requires-2-clause-to_high : goal.turn_with-requires-2-clause-to_high
turn_with-requires-2-clause-to_high c =
    let top = c.requires.inside.to_high c.args.self.now.cell c.requires.exists in
    let is = c.high_alone.ensures.high in
    omega (arith, ints, top, is, c.requires.hi)

pub returns : goal.returns
returns c =
    let parts = parts_over c.args.program.now c.args.self.now.atoms.now in
    let b = c.args.store.now.box in
    let cell = c.args.self.now.cell in
    record {
      to_low = turned_at parts b cell (parts b) c.in_ok-at_low.at_low.value c.low_alone.result.lo c.low_alone.result.hi (low b cell) refl (c.low_alone.ensures.low ∙ c.requires.lo)
          (c.low_alone.ensures.high ∙ c.requires.lo) c.in_ok-at_low.ensures;
      to_high = turned_at parts b cell (parts b) c.in_ok-at_high.at_high.value c.high_alone.result.lo c.high_alone.result.hi (high b cell) refl (c.high_alone.ensures.low ∙ c.requires.hi)
          (c.high_alone.ensures.high ∙ c.requires.hi) c.in_ok-at_high.ensures;
    }
