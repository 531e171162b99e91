use Rattle.std.proofs.Common.{◌≡◌, [], length}
use Rattle.term_math.specs.Shown.{ends_of}
use Rattle.prop_linear.specs.Balances.{box_of, sum_over}
use Rattle.prop_linear.specs.KeptSums.{HasPlaces}
use Rattle.prop_linear.proofs.Renewing.{ArePartsSeen}
use Rattle.prop_linear.proofs.kept_sum.KeptSum.sum_up.Given as goal

abbrev pub invariant-parts : goal.invariant-parts
invariant-parts l = record {
  seen : ArePartsSeen l.difference l.place l.self;
  places : HasPlaces (length l.difference.parts.now) l.self;
  whole : ends_of l.self.whole ≡ sum_over l.difference (box_of l.difference);
  clean : l.self.told.items ≡ [];
}
