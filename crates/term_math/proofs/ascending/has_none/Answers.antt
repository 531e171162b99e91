use Rattle.std.proofs.lemmas.Bool.{eqb-true}
use Rattle.term_math.proofs.Ascents.{none_between}
use Rattle.term_math.proofs.ascending.has_none.Goals as goal

pub returns : goal.returns
returns c =
    λ same.
    none_between c.args.ends.now.low c.args.ends.now.high c.args.set.now c.in-Some.low c.in-Some-gap.high c.in-Some.ensures c.in-Some-gap.ensures
    (eqb-true c.in-Some.low c.in-Some-gap.high same)
