use Rattle.std.proofs.Common.{◌+◌, pos, map, get_or, drop, ap, sym, ◌∙◌}
use Rattle.std.specs.List.{fold}
use Rattle.std.proofs.lemmas.List.{get_or_default}
use Rattle.term_language.specs.Ends.{Ends, hull}
use Rattle.term_language.specs.Rules.{item_ends}
use Rattle.term_math.specs.Shown.{ends_of}
use Rattle.term_math.specs.Kept.{items_of}
use Rattle.term_math.specs.declared.elements.Element.{Element}
use Rattle.term_math.specs.declared.elements.Element.TheVariants.{Fixed}
use Rattle.term_math.proofs.Hulls.{next_hull, no_hull}
use Rattle.term_math.proofs.arrays.fixed_hull.Goals as goal

pub loop-element-preserved : goal.loop-element-preserved
loop-element-preserved c =
    λ b.
    let xs = c.in-Some.later.now in
    let i = c.loop-element.element-index in
    let x : Element = get_or xs i (Fixed (pos 0)) in
    ap (λ (a : Ends). fold hull a (map (item_ends b) (items_of (drop (i + 1) xs)))) (c.hull-hull.ensures ∙ ap (hull (ends_of c.loop-element.hull)) (c.in_ok-here.ensures b))
    ∙ sym (next_hull b (ends_of c.loop-element.hull) xs i x c.loop-element-test.true (get_or_default xs i (Fixed (pos 0)) x c.loop-element-test.true))
    ∙ c.loop-element.invariant b

pub returns : goal.returns
returns c =
    λ b.
    sym (no_hull b (ends_of c.loop-element.hull) c.in-Some.later.now c.loop-element.element-index c.loop-element-test.false)
    ∙ c.loop-element.invariant b
