use Rattle.std.proofs.Common.{◌<◌, ℕ}
use Rattle.std.specs.List.{Contains}
use Rattle.log_check.specs.KeptSums.{cells_of_part}
use Rattle.log_check.proofs.seen_sum.SeenSum.lists_all.Given as goal

abbrev pub invariant-places : goal.invariant-places
invariant-places g l =
    (part cell : ℕ) → part < l.at → Contains (g.P.SumParts.mention l.parts part) cell → Contains (cells_of_part l.self part) cell
