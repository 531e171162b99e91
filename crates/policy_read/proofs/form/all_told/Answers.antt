use Rattle.policy_read.specs.Forms.{facing_in, told_by}
use Rattle.policy_read.proofs.Firsts.{each_more}
use Rattle.policy_read.proofs.form.all_told.Goals as goal

pub nodes-preserved : goal.nodes-preserved
nodes-preserved c =
    each_more facing_in c.args.nodes.now c.nodes.node-index told_by c.nodes.found.items c.node-item.result c.add_told.new.found.items c.nodes-test.true c.node-item.is
    c.in_ok-add_told.ensures c.nodes.invariant
