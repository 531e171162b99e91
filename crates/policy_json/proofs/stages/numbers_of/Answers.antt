use Rattle.std.proofs.Common.{ap, arith}
use Rattle.sopl_ast.specs.Instances.{Decision}
use Rattle.policy_json.proofs.Kept.{number_kept, number_passed, numbers_all}
use Rattle.policy_json.proofs.stages.numbers_of.Goals as goal

pub decisions-preserved-then-decision-stage : goal.decisions-preserved-then-decision-stage
decisions-preserved-then-decision-stage c =
    number_passed c.args.stage c.args.decisions.now c.decisions.number c.index-decisions-number.result c.decisions.found.items c.decision.inside.stage
    c.decisions-test.true c.index-decisions-number.is (ap (λ (d : Decision). d.stage) c.decision.view_is) c.if-decision-stage.true c.decisions.invariant

pub decisions-preserved : goal.decisions-preserved
decisions-preserved c =
    number_kept c.args.stage c.args.decisions.now c.decisions.number c.index-decisions-number.result c.decisions.found.items c.push.new.self.items c.decision.inside.stage
    c.decisions-test.true c.index-decisions-number.is (ap (λ (d : Decision). d.stage) c.decision.view_is) c.if-decision-stage.false c.decisions.invariant
    c.in_ok-push.ensures.items

pub returns : goal.returns
returns c = numbers_all c.args.stage c.args.decisions.now c.decisions.number c.decisions.found.items (omega arith) c.decisions.invariant
