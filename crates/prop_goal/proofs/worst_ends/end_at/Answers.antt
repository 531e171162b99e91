use Rattle.std.proofs.Common.{arith, pos}
use Rattle.std.proofs.lemmas.Int.{ints}
use Rattle.prop_shave.proofs.Opening.{part_from, part_to}
use Rattle.prop_goal.proofs.Scenarios.{ended}
use Rattle.prop_goal.proofs.worst_ends.end_at.Goals as goal

pub range_in-range-requires-clause-from_low : goal.range_in-range-requires-clause-from_low
range_in-range-requires-clause-from_low c =
    let wide = c.requires.end.wide in
    part_from c.args.probe.now c.args.end.now (pos 1) c.values-part.result.lo c.requires.asked c.requires.end (omega (arith, ints)) (omega (arith, ints, wide)) c.values-part.ensures.low

pub range_in-range-requires-clause-to_high : goal.range_in-range-requires-clause-to_high
range_in-range-requires-clause-to_high c =
    let wide = c.requires.end.wide in
    part_to c.args.probe.now c.args.end.now (pos 1) c.values-part.result.hi c.requires.asked c.requires.end (omega (arith, ints)) (omega (arith, ints, wide)) c.values-part.ensures.high

pub returns : goal.returns
returns c =
    let q = c.args.probe.now in
    let end = c.args.end.now in
    let part = c.values-part.result in
    let wide = c.requires.end.wide in
    ended q c.args.atom.now end c.direction.result part c.range_in-range.result c.better_of.result.value c.requires.asked c.requires.once c.values-part.ensures.low c.values-part.ensures.high
    (part_from q end (pos 1) part.lo c.requires.asked c.requires.end (omega (arith, ints)) (omega (arith, ints, wide)) c.values-part.ensures.low) part.ordered
    (part_to q end (pos 1) part.hi c.requires.asked c.requires.end (omega (arith, ints)) (omega (arith, ints, wide)) c.values-part.ensures.high) c.range_in-range.ensures.interval
    c.direction.ensures c.better_of.ensures
