use Rattle.std.proofs.Common.{◌≡◌, ◌++◌, drop, map}
use Rattle.serde_json.specs.View.{view}
use Rattle.policy_read.specs.Listed.{pairwise}
use Rattle.policy_read.specs.Forms.{told_list}
use Rattle.policy_read.proofs.form.add_entries.Given as goal

abbrev pub invariant-entries : goal.invariant-entries
invariant-entries l =
    l.found.items ++ pairwise told_list (drop l.i (map view l.form)) (drop l.i (map view l.given))
    ≡ l.fn.found.items ++ pairwise told_list (map view l.form) (map view l.given)
