use Rattle.std.proofs.Common.{rules, SFits}
use Rattle.std.specs.Int.{w128}
use Rattle.std.proofs.lemmas.Int.{to_z-of_z}
use Rattle.sopl_base.proofs.numbers.reaches.Goals as goal

pub returns : goal.returns
returns c =
    let left : SFits w128 c.weighed.result.value = search rules in
    let right : SFits w128 c.weighed-2.result.value = search rules in
    rw (to_z-of_z w128 c.weighed.result.value left, to_z-of_z w128 c.weighed-2.result.value right, c.weighed.ensures, c.weighed-2.ensures)
    (search rules)
