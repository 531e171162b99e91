use Rattle.std.proofs.Common.{◌≡◌, map}
use Rattle.policy_values.specs.Labels.{drawn_label, numbered_from}
use Rattle.policy_values.specs.Listing.{entered}
use Rattle.policy_values.proofs.Numbered.{left_behind}
use Rattle.policy_values.proofs.variables.drawn_numbers.Given as goal

abbrev pub invariant-stochs : goal.invariant-stochs
invariant-stochs l = left_behind drawn_label (entered l.numbering) l.number l.stochs ≡ numbered_from 0 (map drawn_label l.stochs)
