use Rattle.std.proofs.Common.{◌∙◌, ap}
use Rattle.serde_json.specs.Written.{has_float}
use Rattle.answer_lines.proofs.Plain.{counts_plain}
use Rattle.answer_lines.proofs.prefix.prefix.Goals as goal

pub text_of-requires : goal.text_of-requires
text_of-requires c = record { whole = ap has_float c.in_ok-digits_value.ensures }

pub text_of-requires-2 : goal.text_of-requires-2
text_of-requires-2 c = record { whole = ap has_float c.in_ok-history_counts.ensures ∙ counts_plain c.args.tree.now c.args.last }
