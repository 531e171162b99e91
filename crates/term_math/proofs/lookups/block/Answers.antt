use Rattle.std.proofs.Common.{◌≡◌, ℤ, pos, false, get_or, arith, rules}
use Rattle.std.specs.Ordering.{int_eq}
use Rattle.std.proofs.lemmas.Int.{ints}
use Rattle.std.proofs.lemmas.List.{get_or_default}
use Rattle.term_math.proofs.Blocks.{next_left}
use Rattle.term_math.proofs.lookups.block.Goals as goal

pub loop-here-preserved : goal.loop-here-preserved
loop-here-preserved c =
    let set = c.args.set.now in
    let i = c.loop-here.here-index in
    let here : ℤ = get_or set i (pos 0) in
    let other : int_eq here c.args.number.now ≡ false = first_of (search rules, grind (arith, ints)) in
    next_left c.args.number.now set c.args.width c.args.elements.now c.loop-here.left.now c.split_at.result.1.now i here c.loop-here-test.true
    (get_or_default set i (pos 0) here c.loop-here-test.true) other
    c.split_at.ensures.back c.split_at.ensures.back_len c.loop-here.invariant.0 c.loop-here.invariant.1
