use Rattle.std.proofs.Common.{◌≡◌, drop, map}
use Rattle.serde_json.specs.View.{view}
use Rattle.policy_read.specs.Listed.{alike, same_whole}
use Rattle.policy_read.proofs.entry.same_wholes.Given as goal

abbrev pub invariant-numbers : goal.invariant-numbers
invariant-numbers l = alike same_whole (drop l.i (map view l.form)) (drop l.i (map view l.given)) ≡ alike same_whole (map view l.form) (map view l.given)
