use Rattle.std.proofs.Common.{◌≡◌, ◌∙◌, ap, rules, SFits}
use Rattle.std.specs.Int.{w128}
use Rattle.std.proofs.lemmas.Int.{to_z-of_z}
use Rattle.serde_json.specs.View.{view}
use Rattle.serde_json.specs.Written.{compact_text, has_float}
use Rattle.sopl_scen.specs.Layout.{weight_in}
use Rattle.answer_lines.specs.Answer.{digits, scenario_object}
use Rattle.answer_lines.specs.Shown.{shown}
use Rattle.answer_lines.proofs.Plain.{shown_plain}
use Rattle.answer_lines.proofs.scenes.scene_text.Goals as goal

value_is : (c : goal.In_ok-value) → view c.in_ok-value.value ≡ shown c.args.stochs.now c.args.tree.now c.args.scenario
value_is c =
    let fits : SFits w128 c.weight.result = search rules in
    c.in_ok-value.ensures (weight_in c.args.tree.now c.args.scenario) (c.in_ok-weight.ensures ∙ ap digits (to_z-of_z w128 c.weight.result fits ∙ c.weight.ensures))
    ∙ ap (λ l. scenario_object l (weight_in c.args.tree.now c.args.scenario)) c.in_ok-seen.ensures

pub text_of-requires : goal.text_of-requires
text_of-requires c = record { whole = ap has_float (value_is c) ∙ shown_plain c.args.stochs.now c.args.tree.now c.args.scenario }
