use Rattle.std.proofs.Common.{◌∙◌, ap, not, sym, arith}
use Rattle.policy_read.specs.Forms.{differs, facing_in}
use Rattle.policy_read.proofs.Firsts.{first_found, first_more, first_none}
use Rattle.policy_read.proofs.form.first_difference.Goals as goal

pub returns-then-not-is_node : goal.returns-then-not-is_node
returns-then-not-is_node c =
    first_found facing_in c.args.nodes.now c.nodes.i differs c.index-nodes-i.result c.nodes-test.true c.index-nodes-i.is (ap not (sym c.is_node.ensures ∙ c.if-not-is_node.true)) c.nodes.invariant

pub nodes-preserved : goal.nodes-preserved
nodes-preserved c =
    first_more facing_in c.args.nodes.now c.nodes.i differs c.index-nodes-i.result c.nodes-test.true c.index-nodes-i.is (ap not (sym c.is_node.ensures ∙ c.if-not-is_node.false)) c.nodes.invariant

pub returns : goal.returns
returns c = first_none facing_in c.args.nodes.now c.nodes.i differs (omega arith) c.nodes.invariant
