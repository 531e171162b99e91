use Rattle.std.proofs.Common.{◌≡◌, ◌<◌, ℕ}
use Rattle.log_check.specs.KeptSums.{IsSumKept, part_kept}
use Rattle.log_check.proofs.seen_sum.SeenSum.mend.Given as goal

abbrev pub invariant-places : goal.invariant-places
invariant-places g l = record {
  kept : IsSumKept l.changes (g.P.SumParts.mention l.parts) (g.P.SumParts.count l.parts) (g.P.SumParts.value l.parts) l.self;
  all : (part : ℕ) → part < l.at → part_kept l.self part ≡ g.P.SumParts.value l.parts part;
  seen : l.self.seen ≡ l.fn.self.seen;
}
