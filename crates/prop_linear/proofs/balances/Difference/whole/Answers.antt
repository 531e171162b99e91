use Rattle.prop_linear.proofs.Summing.{whole_has_room}
use Rattle.prop_linear.proofs.balances.Difference.whole.Goals as goal

pub plus-requires : goal.plus-requires
plus-requires c = record {
  fits = whole_has_room c.args.self.now c.constant_ends.result c.cells-cells.result c.requires.light c.constant_ends.ensures c.cells-cells.ensures;
}
