use Rattle.std.proofs.Common.{◌≡◌, drop, map}
use Rattle.serde_json.specs.View.{view}
use Rattle.policy_read.specs.Listed.{alike}
use Rattle.policy_read.specs.Forms.{is_branch}
use Rattle.policy_read.proofs.form.all_branches.Given as goal

abbrev pub invariant-branches : goal.invariant-branches
invariant-branches l = alike is_branch (drop l.i (map view l.form)) (drop l.i (map view l.given)) ≡ alike is_branch (map view l.form) (map view l.given)
