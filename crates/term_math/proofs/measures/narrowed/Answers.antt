use Rattle.std.proofs.Common.{rules, ℤ, SFits, ap}
use Rattle.std.specs.Int.{w128}
use Rattle.term_math.proofs.Weighing.{cast_fits, cast_same}
use Rattle.term_math.proofs.measures.narrowed.Goals as goal

pub overflow_cast-result : goal.overflow_cast-result
overflow_cast-result c =
    let fits : SFits w128 c.args.coefficient.now.k = search rules in
    cast_fits c.args.coefficient.now.k fits c.requires.small

pub returns : goal.returns
returns c =
    let fits : SFits w128 c.args.coefficient.now.k = search rules in
    ap (λ (z : ℤ). record { cell = c.args.coefficient.now.cell; k = z }) (cast_same c.args.coefficient.now.k fits c.requires.small)
