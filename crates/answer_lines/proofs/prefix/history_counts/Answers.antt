use Rattle.std.proofs.Common.{◌≡◌, ◌∙◌, ◌∷◌, [], ◌++◌, ◌+◌, map, ap, sym, arith, rules}
use Rattle.std.proofs.lemmas.List.{map-append}
use Rattle.std.proofs.lemmas.List.FromFn.{map-range_with_len_more}
use Rattle.serde_json.specs.View.{view}
use Rattle.answer_lines.specs.Shown.{count_shown, counts_shown}
use Rattle.answer_lines.proofs.prefix.history_counts.Goals as goal

pub stages-preserved : goal.stages-preserved
stages-preserved c =
    let made : view c.from.result ≡ count_shown c.args.tree.now (c.stages.before + 1) = search rules in
    ap (map view) c.in_ok-push.ensures.items
    ∙ (map-append view c.stages.counts.items (c.from.result ∷ [])
    ∙ ((λ i. c.stages.invariant i ++ made i ∷ [])
    ∙ sym (map-range_with_len_more (count_shown c.args.tree.now) 1 c.stages.before (c.stages.before + 1) (omega arith))))
