use Rattle.std.proofs.Common.{◌≡◌, map}
use Rattle.policy_values.specs.Labels.{decided_label, numbered_from}
use Rattle.policy_values.specs.Listing.{entered}
use Rattle.policy_values.proofs.Numbered.{left_behind}
use Rattle.policy_values.proofs.variables.decided_numbers.Given as goal

abbrev pub invariant-decisions : goal.invariant-decisions
invariant-decisions l = left_behind decided_label (entered l.numbering) l.number l.decisions ≡ numbered_from 0 (map decided_label l.decisions)
