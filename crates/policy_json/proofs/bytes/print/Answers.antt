use Rattle.std.proofs.Common.{◌∙◌, ap, length}
use Rattle.sopl_ast.specs.WholeModel.{whole}
use Rattle.policy_json.proofs.Grounded.{ground_laid, ground_spells, ground_states, values_long}
use Rattle.policy_json.proofs.bytes.print.Goals as goal
use Rattle.sopl_unfold.specs.GroundProblem.{ground_problem}

pub policy_value-requires-clause-stated : goal.policy_value-requires-clause-stated
policy_value-requires-clause-stated c =
    ground_states (whole c.args.ground.now.typed.model) c.args.ground.now.typed.origin c.args.ground.now.unfolded.passes c.decisions.result.now c.stochs.result.now
    c.decisions.ensures.decisions c.stochs.ensures.stochastics

pub policy_value-requires-clause-tree : goal.policy_value-requires-clause-tree
policy_value-requires-clause-tree c =
    ground_laid (whole c.args.ground.now.typed.model) c.args.ground.now.typed.origin c.args.ground.now.unfolded.passes c.decisions.result.now c.stochs.result.now
    c.decisions.ensures.decisions c.stochs.ensures.stochastics c.args.tree.now c.requires.tree

pub policy_value-requires-clause-names : goal.policy_value-requires-clause-names
policy_value-requires-clause-names c =
    ground_spells (whole c.args.ground.now.typed.model) c.args.ground.now.typed.origin c.args.ground.now.unfolded.passes c.decisions.result.now c.stochs.result.now
    c.decisions.ensures.decisions c.stochs.ensures.stochastics

pub policy_value-requires-clause-values : goal.policy_value-requires-clause-values
policy_value-requires-clause-values c =
    ap length c.values-values.ensures.values ∙ values_long (ground_problem c.args.ground.now) c.args.tree.now c.args.policy.now.values c.requires.tree c.requires.policy.point
