-- Steps of the hull of all elements.
use Rattle.std.proofs.Common.{◌≡◌, ℕ, ◌+◌, ◌<◌, ◌≤◌, List, map, length, get_or, drop, Option, Some, IfSome, ap, subst, sym, ◌∙◌}
use Rattle.std.specs.List.{fold}
use Rattle.std.proofs.lemmas.List.{at_drop_more, at_drop_all}
use Rattle.box_problem.specs.Box.{Box}
use Rattle.term_language.specs.Ends.{Ends, hull, hull_of}
use Rattle.term_language.specs.Rules.{item_ends}
use Rattle.term_math.specs.declared.elements.Element.{Element}
use Rattle.term_math.specs.declared.ends.Ends as own
use Rattle.term_math.specs.Kept.{item_of, items_of}
use Rattle.term_math.specs.Shown.{ends_of}

pub next_hull : (b : Box) (a : Ends) (xs : List Element) (i : ℕ) (x : Element) → i < length xs → x ≡ get_or xs i x → fold hull a (map (item_ends b) (items_of (drop i xs)))
    ≡ fold hull (hull a (item_ends b (item_of x))) (map (item_ends b) (items_of (drop (i + 1) xs)))
next_hull b a xs i x below at =
    at_drop_more (λ ys. fold hull a (map (item_ends b) (items_of ys))) xs i x below
    ∙ ap (λ (y : Element). fold hull (hull a (item_ends b (item_of y))) (map (item_ends b) (items_of (drop (i + 1) xs)))) (sym at)

pub no_hull : (b : Box) (a : Ends) (xs : List Element) (i : ℕ) → length xs ≤ i → fold hull a (map (item_ends b) (items_of (drop i xs))) ≡ a
no_hull b a xs i past = at_drop_all (λ ys. fold hull a (map (item_ends b) (items_of ys))) xs i past

-- the hull that is kept
pub hull_kept : (b : Box) (found : Option own.Ends) (kept : own.Ends) (es xs : List Element) → found ≡ Some kept → es ≡ xs
    → IfSome found (λ (a : own.Ends). ends_of a ≡ hull_of (map (item_ends b) (items_of es))) → ends_of kept ≡ hull_of (map (item_ends b) (items_of xs))
hull_kept b found kept es xs is same hulled =
    subst (λ (v : Option own.Ends). IfSome v (λ (a : own.Ends). ends_of a ≡ hull_of (map (item_ends b) (items_of es)))) is hulled
    ∙ ap (λ (ys : List Element). hull_of (map (item_ends b) (items_of ys))) same
