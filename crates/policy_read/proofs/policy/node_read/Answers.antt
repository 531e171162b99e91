use Rattle.std.proofs.Common.{◌∙◌, ap, map}
use Rattle.std.proofs.lemmas.Result.{IfOk-weaker}
use Rattle.serde_json.specs.View.{view}
use Rattle.sopl_scen.specs.Domains.{ends_of}
use Rattle.policy_read.proofs.Nodes.{node_so}
use Rattle.policy_read.proofs.policy.node_read.Goals as goal

pub returns : goal.returns
returns c =
    IfOk-weaker c.policy_from.result _ _
    (λ reading is.
    is
    ∙ node_so c.args.decisions.now c.args.stochs.now c.greatest_stage.result (view c.in_ok-form.form) (view c.args.given.now) (map ends_of c.deref.result.now)
    c.greatest_stage.ensures.stage c.in_ok-form.ensures (ap (map ends_of) c.deref.ensures.value ∙ c.in_ok-domains.ensures.cells c.args.stochs.now c.requires.tree))
    c.policy_from.ensures
