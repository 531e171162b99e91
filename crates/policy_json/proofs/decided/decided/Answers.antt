use Rattle.std.proofs.Common.{◌∙◌, ap, sym, pos, get_or, SFits, w64, rules}
use Rattle.std.proofs.lemmas.Int.{to_z-of_z}
use Rattle.std.proofs.lemmas.List.{get_or_read}
use Rattle.std.proofs.lemmas.Result.{IfOk-weaker}
use Rattle.sopl_ast.specs.Instances.{Decision}
use Rattle.sopl_ast.specs.Pieces.{is_word}
use Rattle.sopl_scen.specs.Layout.{cell_in}
use Rattle.policy_json.specs.Entries.{entry_of}
use Rattle.policy_json.specs.Steps.{decided_in, no_decision, parts_in}
use Rattle.policy_json.proofs.Ready.{decided_word}
use Rattle.policy_json.proofs.decided.decided.Goals as goal

pub entry_value-requires : goal.entry_value-requires
entry_value-requires c = record {
  name = ap (λ (d : Decision). is_word d.name) (c.decision.view_is ∙ sym c.index-point-number.is)
      ∙ decided_word (parts_in c.args.point.now) c.requires.ready c.args.number c.index-point-number.result c.requires.decided c.index-point-number.is;
}

pub returns : goal.returns
unfolding decided_in
returns c =
    let fits : SFits w64 c.value_of-value.result = search rules in
    IfOk-weaker c.entry_value.result _ _
    (λ v is.
    is
    ∙ (ap (entry_of c.decision.inside.name c.decision.inside.index) (to_z-of_z w64 c.value_of-value.result fits ∙ c.value_of-value.ensures)
    ∙ ap (λ (d : Decision). entry_of d.name d.index (get_or c.args.point.now.values.now (cell_in c.args.point.now.tree.now c.args.number c.args.scenario) (pos 0)))
    (c.decision.view_is ∙ (sym c.index-point-number.is ∙ get_or_read c.args.point.now.decisions.now c.args.number c.index-point-number.result c.requires.decided c.index-point-number.is no_decision))))
    c.entry_value.ensures
