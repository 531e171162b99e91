use Rattle.std.proofs.Common.{◌∙◌, ◌<◌, ◌≤◌, subst, map, ap, arith}
use Rattle.std.proofs.lemmas.List.{map-append}
use Rattle.serde_json.specs.View.{view}
use Rattle.policy_read.specs.Forms.{facing_in, nodes_behind, nodes_of}
use Rattle.policy_read.proofs.Nodes.{nodes_added}
use Rattle.policy_read.proofs.Pairs.{pairs_all, pairs_more}
use Rattle.policy_read.proofs.form.+add.Goals as goal

pub add_branches-branches-preserved : goal.add_branches-branches-preserved
add_branches-branches-preserved t c =
    pairs_more (nodes_behind (nodes_of c.args.later)) view c.args.form.now c.args.given.now c.branches.i (map facing_in c.args.found.now.items) (map facing_in c.branches.found.items)
    c.index-form-i.result c.index-given-i.result (map facing_in c.add_branch.new.found.items)
    (subst (λ n. c.branches.i < n) c.min-many.ensures c.branches-test.true) c.index-form-i.is c.index-given-i.is c.in_ok-add_branch.ensures c.branches.invariant

pub add_branches-returns : goal.add_branches-returns
add_branches-returns t c =
    pairs_all (nodes_behind (nodes_of c.args.later)) view c.args.form.now c.args.given.now c.branches.i (map facing_in c.args.found.now.items) (map facing_in c.branches.found.items)
    (subst (λ n. n ≤ c.branches.i) c.min-many.ensures c.branches-test.false) c.branches.invariant

pub add_nodes-returns : goal.add_nodes-returns
add_nodes-returns t c =
    nodes_added c.add_branches.result c.args.later (map facing_in c.args.found.now.items) (map facing_in c.push.new.self.items) (map facing_in c.add_branches.new.found.items)
    (view c.args.form.now) (view c.args.given.now) (map view c.items_at.result.now) (map view c.items_at-2.result.now) (omega arith)
    (ap (map facing_in) c.in_ok-push.ensures.items ∙ map-append facing_in c.args.found.now.items _) c.items_at.ensures c.items_at-2.ensures c.add_branches.ensures
