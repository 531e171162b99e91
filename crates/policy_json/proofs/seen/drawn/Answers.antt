use Rattle.std.proofs.Common.{◌∙◌, ap, sym, SFits, w64, rules}
use Rattle.std.proofs.lemmas.Int.{to_z-of_z}
use Rattle.std.proofs.lemmas.List.{get_or_read}
use Rattle.std.proofs.lemmas.Result.{IfOk-weaker}
use Rattle.sopl_ast.specs.Instances.{Stochastic}
use Rattle.sopl_ast.specs.Pieces.{is_word}
use Rattle.sopl_scen.specs.Layout.{value_in}
use Rattle.policy_json.specs.Entries.{entry_of}
use Rattle.policy_json.specs.Steps.{drawn_in, no_variable, parts_in}
use Rattle.policy_json.proofs.Ready.{drawn_within, drawn_word}
use Rattle.policy_json.proofs.seen.drawn.Goals as goal

pub value-value-requires-clause-drawn : goal.value-value-requires-clause-drawn
value-value-requires-clause-drawn c = drawn_within (parts_in c.args.point.now) c.requires.ready c.args.number c.requires.drawn

pub entry_value-requires : goal.entry_value-requires
entry_value-requires c = record {
  name = ap (λ (s : Stochastic). is_word s.name) (c.stoch.view_is ∙ sym c.index-point-number.is)
      ∙ drawn_word (parts_in c.args.point.now) c.requires.ready c.args.number c.index-point-number.result c.requires.drawn c.index-point-number.is;
}

pub returns : goal.returns
unfolding drawn_in
returns c =
    let fits : SFits w64 c.value-value.result = search rules in
    IfOk-weaker c.entry_value.result _ _
    (λ v is.
    is
    ∙ (ap (entry_of c.stoch.inside.name c.stoch.inside.index) (to_z-of_z w64 c.value-value.result fits ∙ c.value-value.ensures)
    ∙ ap (λ (s : Stochastic). entry_of s.name s.index (value_in c.args.point.now.tree.now c.args.number c.args.scenario))
    (c.stoch.view_is ∙ (sym c.index-point-number.is ∙ get_or_read c.args.point.now.stochs.now c.args.number c.index-point-number.result c.requires.drawn c.index-point-number.is no_variable))))
    c.entry_value.ensures
