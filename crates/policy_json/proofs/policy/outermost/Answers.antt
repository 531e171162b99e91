use Rattle.std.proofs.Common.{◌∙◌, arith}
use Rattle.std.proofs.lemmas.Result.{IfOk-weaker}
use Rattle.policy_json.specs.Steps.{parts_in}
use Rattle.policy_json.proofs.RunEnds.{outermost_begins}
use Rattle.policy_json.proofs.NodeLaws.{last_few, outermost_same}
use Rattle.policy_json.proofs.policy.outermost.Goals as goal

pub node_value-requires-clause-to : goal.node_value-requires-clause-to
node_value-requires-clause-to c =
    omega (arith, c.greatest_stage-later.ensures.from, last_few (parts_in c.args.point.now) c.requires c.greatest_stage-later.result c.greatest_stage-later.ensures.stage)

pub node_value-requires-clause-begins : goal.node_value-requires-clause-begins
node_value-requires-clause-begins c = outermost_begins (parts_in c.args.point.now) c.requires

pub returns : goal.returns
returns c =
    IfOk-weaker c.node_value.result _ _
    (λ v is. is ∙ outermost_same (parts_in c.args.point.now) c.requires c.greatest_stage-later.result c.greatest_stage-later.ensures.stage c.greatest_stage-later.ensures.from)
    c.node_value.ensures
