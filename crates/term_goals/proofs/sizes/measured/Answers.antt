use Rattle.std.proofs.Common.{arith}
use Rattle.term_math.specs.Shown.{box_in}
use Rattle.term_goals.proofs.Weights.{greatest_small}
use Rattle.term_goals.proofs.sizes.measured.Goals as goal

pub one_more-requires : goal.one_more-requires
one_more-requires c =
    let small = greatest_small (box_in c.args.here.now.root) c.args.here.now.items.now c.args.terms.now c.requires.ready.built in
    record { room = omega (arith, small, c.in_ok-most.ensures) }
