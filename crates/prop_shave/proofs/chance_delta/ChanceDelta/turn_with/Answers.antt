use Rattle.std.proofs.Common.{arith}
use Rattle.std.proofs.lemmas.Int.{ints}
use Rattle.prop_shave.proofs.chance_delta.ChanceDelta.turn_with.Goals as goal

pub returns : goal.returns
returns c =
    let told = c.in_ok-left.ensures in
    let put = c.in_ok-turn.ensures.difference in
    omega (arith, ints, told, put)
