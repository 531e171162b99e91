use Rattle.std.proofs.Common.{◌≡◌, ◌++◌, ◌+◌, ◌*◌, drop, map}
use Rattle.serde_json.specs.View.{view}
use Rattle.policy_read.specs.Listed.{pairwise}
use Rattle.policy_read.specs.Forms.{facing_in, nodes_behind, nodes_of}
use Rattle.policy_read.proofs.form.+add.Given as goal

abbrev pub decreases-add_nodes : goal.decreases-add_nodes
decreases-add_nodes l = l.later * 3

abbrev pub decreases-add_branches : goal.decreases-add_branches
decreases-add_branches l = l.later * 3 + 2

abbrev pub invariant-add_branches-branches : goal.invariant-add_branches-branches
invariant-add_branches-branches l =
    map facing_in l.found.items ++ pairwise (nodes_behind (nodes_of l.later)) (drop l.i (map view l.form)) (drop l.i (map view l.given))
    ≡ map facing_in l.fn.found.items ++ pairwise (nodes_behind (nodes_of l.later)) (map view l.form) (map view l.given)

abbrev pub decreases-add_branch : goal.decreases-add_branch
decreases-add_branch l = l.later * 3 + 1
