-- What instances and thresholds show.
use Rattle.std.specs.Prelude.{ℤ}
use Rattle.unfold_tables.specs.Tables.{items}
use Rattle.unfold_constraints.specs.Stepping.{Found}
use Rattle.unfold_constraints.specs.declared.items.Instances.{Instances}
use Rattle.unfold_constraints.specs.declared.thresholds.Threshold.{Threshold}

-- the instances that were found
abbrev pub found_in : Instances → Found
found_in instances = record { hards = items instances.hards; chances = items instances.chances }

-- the two parts of a threshold
abbrev pub threshold_in : Threshold → ℤ × ℤ
threshold_in threshold = (threshold.p, threshold.q)
