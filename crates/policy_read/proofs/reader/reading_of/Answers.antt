use Rattle.sopl_ast.specs.WholeModel.{whole}
use Rattle.policy_json.proofs.Grounded.{ground_laid, ground_spells, ground_states}
use Rattle.policy_read.proofs.Reading.{read_so, reading_inside}
use Rattle.policy_read.proofs.reader.reading_of.Goals as goal

pub policy_in-requires-clause-stated : goal.policy_in-requires-clause-stated
policy_in-requires-clause-stated c =
    ground_states (whole c.args.ground.now.typed.model) c.args.ground.now.typed.origin c.args.ground.now.unfolded.passes c.decisions.result.now c.stochs.result.now
    c.decisions.ensures.decisions c.stochs.ensures.stochastics

pub policy_in-requires-clause-tree : goal.policy_in-requires-clause-tree
policy_in-requires-clause-tree c =
    ground_laid (whole c.args.ground.now.typed.model) c.args.ground.now.typed.origin c.args.ground.now.unfolded.passes c.decisions.result.now c.stochs.result.now
    c.decisions.ensures.decisions c.stochs.ensures.stochastics c.args.tree.now c.requires.tree

pub policy_in-requires-clause-names : goal.policy_in-requires-clause-names
policy_in-requires-clause-names c =
    ground_spells (whole c.args.ground.now.typed.model) c.args.ground.now.typed.origin c.args.ground.now.unfolded.passes c.decisions.result.now c.stochs.result.now
    c.decisions.ensures.decisions c.stochs.ensures.stochastics

pub returns-clause-reading : goal.returns-clause-reading
returns-clause-reading c =
    read_so (whole c.args.ground.now.typed.model) c.decisions.result.now c.stochs.result.now c.args.bytes.now c.policy_in.result c.decisions.ensures.decisions
    c.stochs.ensures.stochastics c.policy_in.ensures

pub returns-clause-inside : goal.returns-clause-inside
returns-clause-inside c =
    reading_inside (whole c.args.ground.now.typed.model) c.args.ground.now.unfolded.passes c.decisions.result.now c.stochs.result.now c.args.bytes.now c.policy_in.result
    c.decisions.ensures.decisions c.stochs.ensures.stochastics c.policy_in.ensures
