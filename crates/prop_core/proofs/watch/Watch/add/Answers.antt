use Rattle.std.proofs.Common.{◌∷◌, [], ◌++◌, ap, refl, rules, ◌∙◌}
use Rattle.prop_core.specs.declared.watch.WatchPlaces.{WatchPlaces}
use Rattle.prop_core.proofs.Listed.{one_added}
use Rattle.prop_core.proofs.watch.Watch.add.Goals as goal

pub returns : goal.returns
returns c =
    let after : WatchPlaces = record { items = c.push.new.self } in
    one_added c.args.self.now _ c.args.cell c.args.at c.index_mut.result.now after (search rules) refl
    (c.in_ok-push.ensures.items ∙ ap (λ (places : WatchPlaces). places.items.items ++ c.args.at ∷ []) c.index_mut.ensures.value)
