use Rattle.std.proofs.Common.{arith, get_or, rules}
use Rattle.prop_core.proofs.Told.{placed, woken_all}
use Rattle.prop_core.proofs.waking.let_wait.Goals as goal

pub bounds-waits-at : goal.bounds-waits-at
bounds-waits-at c =
    omega (arith, c.places.auto.waits, c.requires.below (get_or c.args.places.now c.places.place-index 0) (placed c.args.places.now c.places.place-index c.places-test.true))

pub returns : goal.returns
returns c = woken_all c.args.places.now c.args.waits.now c.places.waits c.places.place-index (search rules) c.places.invariant
