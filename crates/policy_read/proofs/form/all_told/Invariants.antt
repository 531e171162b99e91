use Rattle.std.proofs.Common.{◌≡◌, ◌++◌, drop, map}
use Rattle.std.specs.List.{flat_map}
use Rattle.policy_read.specs.Forms.{facing_in, told_by}
use Rattle.policy_read.proofs.form.all_told.Given as goal

abbrev pub invariant-nodes : goal.invariant-nodes
invariant-nodes l = l.found.items ++ flat_map told_by (drop l.node-index (map facing_in l.nodes)) ≡ flat_map told_by (map facing_in l.nodes)
