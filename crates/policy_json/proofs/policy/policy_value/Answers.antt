use Rattle.std.proofs.Common.{◌∙◌}
use Rattle.std.proofs.lemmas.Result.{IfOk-weaker}
use Rattle.serde_json.specs.View.{view}
use Rattle.sopl_ast.specs.Cells.{policy_at}
use Rattle.sopl_scen.specs.Layout.{cells_for}
use Rattle.policy_json.specs.Steps.{ready}
use Rattle.policy_json.proofs.Held.{shown_outermost}
use Rattle.policy_json.proofs.Plain.{outermost_plain}
use Rattle.policy_json.proofs.policy.policy_value.Goals as goal

pub outermost-requires : goal.outermost-requires
outermost-requires c =
    ready c.requires.stated.0 c.requires.stated.1 c.requires.tree c.requires.values (c.deref.ensures.value ∙ c.in_ok-stages.ensures) c.requires.names

pub returns-clause-held : goal.returns-clause-held
returns-clause-held c =
    IfOk-weaker c.outermost.result _ _
    (λ v is. shown_outermost c.args.decisions.now c.args.stochs.now (policy_at (cells_for c.args.decisions.now c.args.stochs.now) c.args.values.now) (view v) is)
    c.outermost.ensures

pub returns-clause-whole : goal.returns-clause-whole
returns-clause-whole c =
    IfOk-weaker c.outermost.result _ _
    (λ v is. outermost_plain c.args.decisions.now c.args.stochs.now (policy_at (cells_for c.args.decisions.now c.args.stochs.now) c.args.values.now) (view v) is)
    c.outermost.ensures
