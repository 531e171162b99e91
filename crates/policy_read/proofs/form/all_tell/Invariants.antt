use Rattle.std.proofs.Common.{◌≡◌, drop, map}
use Rattle.serde_json.specs.View.{view}
use Rattle.policy_read.specs.Listed.{alike}
use Rattle.policy_read.specs.Entries.{is_told}
use Rattle.policy_read.proofs.form.all_tell.Given as goal

abbrev pub invariant-entries : goal.invariant-entries
invariant-entries l = alike is_told (drop l.i (map view l.form)) (drop l.i (map view l.given)) ≡ alike is_told (map view l.form) (map view l.given)
