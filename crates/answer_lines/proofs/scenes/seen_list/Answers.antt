use Rattle.std.proofs.Common.{◌≡◌, ◌∙◌, ◌∷◌, [], ◌++◌, ◌+◌, map, drop, ap, rules, SFits, w64}
use Rattle.std.proofs.lemmas.Int.{to_z-of_z}
use Rattle.std.proofs.lemmas.List.{map-append}
use Rattle.serde_json.specs.View.{view}
use Rattle.sopl_ast.specs.Instances.{Stochastic}
use Rattle.sopl_ast.specs.Pieces.{is_word}
use Rattle.sopl_scen.specs.Layout.{value_in}
use Rattle.policy_json.specs.Entries.{entry_of}
use Rattle.answer_lines.specs.Shown.{entries_from}
use Rattle.answer_lines.proofs.Steps.{entry_step, word_at}
use Rattle.answer_lines.proofs.scenes.seen_list.Goals as goal

pub entry_value-requires : goal.entry_value-requires
entry_value-requires c =
    record {
      name =
          ap (λ (s : Stochastic). is_word s.name) c.stoch.view_is
          ∙ word_at c.args.stochs.now c.stochs.place c.index-stochs-place.result c.stochs-test.true c.index-stochs-place.is c.requires.names;
    }

pub stochs-preserved : goal.stochs-preserved
stochs-preserved c =
    let fits : SFits w64 c.value-value.result = search rules in
    let made : view c.in_ok-entry_value.field-0 ≡ entry_of c.index-stochs-place.result.name c.index-stochs-place.result.index (value_in c.args.tree.now c.stochs.place c.args.scenario) =
    c.in_ok-entry_value.ensures
    ∙ (ap (entry_of c.stoch.inside.name c.stoch.inside.index) (to_z-of_z w64 c.value-value.result fits ∙ c.value-value.ensures)
    ∙ ap (λ (s : Stochastic). entry_of s.name s.index (value_in c.args.tree.now c.stochs.place c.args.scenario)) c.stoch.view_is) in
    ap (λ l. l ++ entries_from c.args.tree.now c.args.scenario (c.stochs.place + 1) (drop (c.stochs.place + 1) c.args.stochs.now))
    (ap (map view) c.in_ok-push.ensures.items ∙ map-append view c.stochs.list.items (c.in_ok-entry_value.field-0 ∷ []))
    ∙ entry_step c.args.tree.now c.args.scenario c.args.stochs.now c.stochs.place c.index-stochs-place.result (map view c.stochs.list.items)
    (entries_from c.args.tree.now c.args.scenario 0 c.args.stochs.now) (view c.in_ok-entry_value.field-0) c.stochs-test.true c.index-stochs-place.is made c.stochs.invariant
