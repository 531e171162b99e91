use Rattle.std.proofs.Common.{◌≡◌, map}
use Rattle.serde_json.specs.View.{view}
use Rattle.answer_lines.specs.Shown.{counts_shown}
use Rattle.answer_lines.proofs.prefix.history_counts.Given as goal

abbrev pub invariant-stages : goal.invariant-stages
invariant-stages l = map view l.counts.items ≡ counts_shown l.tree l.before
