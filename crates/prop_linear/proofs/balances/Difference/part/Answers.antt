use Rattle.prop_linear.proofs.Summing.{part_has_room}
use Rattle.prop_linear.proofs.balances.Difference.part.Goals as goal

pub scaled-requires : goal.scaled-requires
scaled-requires c = record {
  fits = part_has_room c.args.self.now c.args.part.now c.factor.result.k c.cell-interval.result c.requires.light c.requires.own_part c.factor.ensures c.cell-interval.ensures;
}
