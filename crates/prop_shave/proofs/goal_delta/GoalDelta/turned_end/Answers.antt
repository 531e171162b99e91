use Rattle.std.proofs.Common.{◌≡◌, ◌∙◌, ◌<◌, IfSome, Some, arith, length, rules, subst}
use Rattle.std.proofs.lemmas.Int.{ints}
use Rattle.std.proofs.lemmas.Option.{IfSome_then}
use Rattle.box_problem.specs.Box.{high, low}
use Rattle.prop_shave.specs.GoalSums.{parts_over}
use Rattle.prop_shave.specs.Turns.{AreEndTurns}
use Rattle.prop_shave.proofs.AtEnds.{end_turned_to}
use Rattle.prop_shave.proofs.goal_delta.GoalDelta.turned_end.Goals as goal

pub returns-then-part-lo : goal.returns-then-part-lo
returns-then-part-lo c = λ program made inside known.
    let b = c.args.store.now.box in
    let k = c.args.self.now in
    let turns = c.in_ok-turns.turns in
    let at : k.turns ≡ Some turns = search rules in
    let exists : k.cell < length b.lows = search rules in
    let told = subst (λ o. IfSome o (AreEndTurns (parts_over program k.atoms.now) b k.cell)) at known.turns in
    let same : c.args.part.lo ≡ low b k.cell = search rules in
    let one : c.args.part.hi ≡ c.args.part.lo = search rules in
    let bottom = inside.from_low k.cell exists in
    let order = inside.is_box.ordered k.cell exists in
    let top = inside.to_high k.cell exists in
    IfSome_then c.checked_plus.result c.checked_plus.ensures.sum
    (λ s put.
    end_turned_to program b k turns.low.value s.value c.args.part.lo c.args.part.hi (low b k.cell) inside known bottom (omega (arith, ints, order, top)) told.to_low put same (one ∙ same))

pub returns-then-part-hi : goal.returns-then-part-hi
returns-then-part-hi c = λ program made inside known.
    let b = c.args.store.now.box in
    let k = c.args.self.now in
    let turns = c.in_ok-turns.turns in
    let at : k.turns ≡ Some turns = search rules in
    let exists : k.cell < length b.lows = search rules in
    let told = subst (λ o. IfSome o (AreEndTurns (parts_over program k.atoms.now) b k.cell)) at known.turns in
    let same : c.args.part.hi ≡ high b k.cell = search rules in
    let one : c.args.part.lo ≡ c.args.part.hi = search rules in
    let bottom = inside.from_low k.cell exists in
    let order = inside.is_box.ordered k.cell exists in
    let top = inside.to_high k.cell exists in
    IfSome_then c.checked_plus-then-part-hi.result c.checked_plus-then-part-hi.ensures.sum
    (λ s put.
    end_turned_to program b k turns.high.value s.value c.args.part.lo c.args.part.hi (high b k.cell) inside known (omega (arith, ints, bottom, order)) top told.to_high put (one ∙ same) same)
