use Rattle.std.proofs.Common.{◌≡◌, drop, map}
use Rattle.serde_json.specs.View.{view}
use Rattle.policy_read.specs.Listed.{alike}
use Rattle.policy_read.specs.Entries.{same_seen}
use Rattle.policy_read.proofs.form.all_seen.Given as goal

abbrev pub invariant-entries : goal.invariant-entries
invariant-entries l = alike same_seen (drop l.i (map view l.form)) (drop l.i (map view l.given)) ≡ alike same_seen (map view l.form) (map view l.given)
