use Rattle.std.proofs.Common.{◌≡◌, drop, map}
use Rattle.std.specs.List.{position_from}
use Rattle.policy_read.specs.Forms.{differs, facing_in}
use Rattle.policy_read.proofs.form.first_difference.Given as goal

abbrev pub invariant-nodes : goal.invariant-nodes
invariant-nodes l = position_from differs l.i (drop l.i (map facing_in l.nodes)) ≡ position_from differs 0 (map facing_in l.nodes)
