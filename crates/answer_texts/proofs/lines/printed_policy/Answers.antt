use Rattle.std.proofs.Common.{◌∙◌, ap, length}
use Rattle.scen_accept.specs.Stated.{problem_in}
use Rattle.policy_json.proofs.Grounded.{values_long}
use Rattle.answer_texts.proofs.Points.{names_spelled, variables_stated}
use Rattle.answer_texts.proofs.Printing.{printed_policy}
use Rattle.answer_texts.proofs.lines.printed_policy.Goals as goal

pub policy_value-requires-clause-stated : goal.policy_value-requires-clause-stated
policy_value-requires-clause-stated c =
    variables_stated c.args.stated.now c.decisions.result.now c.stochs.result.now c.decisions.ensures.decisions c.stochs.ensures.stochastics

pub policy_value-requires-clause-names : goal.policy_value-requires-clause-names
policy_value-requires-clause-names c =
    names_spelled c.args.stated.now c.decisions.result.now c.stochs.result.now c.decisions.ensures.decisions c.stochs.ensures.stochastics

pub policy_value-requires-clause-values : goal.policy_value-requires-clause-values
policy_value-requires-clause-values c =
    ap length c.as_slice.ensures.items
    ∙ values_long (problem_in c.args.stated.now) c.args.stated.now.tree c.args.point.now c.requires.laid_out c.requires.inside

pub returns-clause-policy : goal.returns-clause-policy
returns-clause-policy c =
    printed_policy (problem_in c.args.stated.now) c.decisions.result.now c.stochs.result.now c.as_slice.result.now c.args.point.now c.policy_value.result
    c.decisions.ensures.decisions c.stochs.ensures.stochastics c.as_slice.ensures.items c.policy_value.ensures.node
