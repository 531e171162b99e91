use Rattle.prop_linear.proofs.Room.{part_fits, sum_fits}
use Rattle.prop_linear.proofs.turns.Turn.sum.Goals as goal

pub scaled-part-requires : goal.scaled-part-requires
scaled-part-requires c = record {
  fits = part_fits c.args.self.now c.args.removal.now.count c.factor.result.k c.values.result c.requires.room c.requires.at_least_one c.requires.fewer c.factor.ensures c.values.ensures;
}

pub plus-requires : goal.plus-requires
plus-requires c = record {
  fits = sum_fits c.args.self.now c.args.removal.now.count c.factor.result.k c.values.result c.scaled-part.result c.requires.room c.requires.at_least_one c.requires.fewer c.factor.ensures
      c.values.ensures c.scaled-part.ensures;
}
