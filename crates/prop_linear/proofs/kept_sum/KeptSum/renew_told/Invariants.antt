use Rattle.std.proofs.Common.{length}
use Rattle.prop_linear.specs.Balances.{box_of}
use Rattle.prop_linear.specs.KeptSums.{HasPlaces, SumsUp}
use Rattle.prop_linear.proofs.kept_sum.KeptSum.renew_told.Given as goal

abbrev pub invariant-cells : goal.invariant-cells
invariant-cells l = record {
  sums : SumsUp l.self.told.items l.difference.constant l.difference.parts.now (box_of l.difference) l.self;
  places : HasPlaces (length l.difference.parts.now) l.self;
}

abbrev pub decreases-cells : goal.decreases-cells
decreases-cells l = length l.self.told.items
