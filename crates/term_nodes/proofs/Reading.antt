-- What is known of the node of a number.
use Rattle.std.proofs.Common.{◌≡◌, ℕ, ◌+◌, ◌<◌, ◌≤◌, List, [], ◌∷◌, ◌++◌, length, get_or, arith, ap, sym, ◌∙◌, length-append}
use Rattle.std.proofs.lemmas.List.{get_or_past}
use Rattle.box_problem.specs.Box.{Box}
use Rattle.term_language.specs.Rules.{Near, Wide, form, mark}
use Rattle.term_language.specs.Sizes.{atoms_weight}
use Rattle.term_math.specs.Shown.{ends_of, form_of}
use Rattle.term_nodes.specs.declared.items.Item.{Item}
use Rattle.term_nodes.specs.Seen.{Sight, sight}
use Rattle.term_nodes.specs.Things.{Thing, nothing, term_in, term_at, thing_at, thing_of, things, things_from}
use Rattle.term_nodes.specs.Built as built
use Rattle.term_nodes.specs.Built.{IsAt, IsBuilt}

length_from : (known : List Thing) (items : List Item) → length (things_from known items) ≡ length known + length items
length_from known [] = omega arith
length_from known (item ∷ items) =
    omega (arith, length_from (known ++ thing_of known item.node ∷ []) items, length-append known (thing_of known item.node ∷ []))

pub length_things : (items : List Item) → length (things items) ≡ length items
length_things items = omega (arith, length_from [] items)

pub nothing_past : (items : List Item) (id : ℕ) → length items ≤ id → thing_at (things items) id ≡ nothing
nothing_past items id past = get_or_past (things items) id nothing (omega (arith, length_things items, past))

pub is_at : (root : Box) (items : List Item) (id : ℕ) (item : Item) → IsBuilt root items → id < length items → item ≡ get_or items id item → IsAt root (things items) id item
is_at root items id item all below at = all.each id item below at

pub form_is : (root : Box) (items : List Item) (id : ℕ) (item : Item) → IsBuilt root items → id < length items → item ≡ get_or items id item → form_of item.facts.form
    ≡ form root (term_at (things items) id)
form_is root items id item all below at =
    let here = all.each id item below at in
    ap (λ (f : built.Facts). f.form) here.kept ∙ ap (λ (t : Thing). form root (term_in t)) (sym here.thing)

pub wide_is : (root : Box) (items : List Item) (id : ℕ) (item : Item) → IsBuilt root items → id < length items → item ≡ get_or items id item
    → (◌≡◌ {A = Sight}) (record { ends = ends_of item.facts.wide; mark = item.facts.wide_mark }) (sight Wide root root (term_at (things items) id))
wide_is root items id item all below at =
    let here = all.each id item below at in
    (ap (λ (f : built.Facts). record { ends = f.wide; mark = f.wide_mark }) here.kept) ∙ ap (λ (t : Thing). sight Wide root root (term_in t)) (sym here.thing)

pub weight_is : (root : Box) (items : List Item) (id : ℕ) (item : Item) → IsBuilt root items → id < length items → item ≡ get_or items id item → item.facts.weight
    ≡ atoms_weight root (term_at (things items) id)
weight_is root items id item all below at =
    let here = all.each id item below at in
    ap (λ (f : built.Facts). f.weight) here.kept ∙ ap (λ (t : Thing). atoms_weight root (term_in t)) (sym here.thing)

pub mark_is : (root : Box) (items : List Item) (id : ℕ) (item : Item) → IsBuilt root items → id < length items → item ≡ get_or items id item → item.facts.mark
    ≡ mark Near root root (term_at (things items) id)
mark_is root items id item all below at =
    let here = all.each id item below at in
    ap (λ (f : built.Facts). f.mark) here.kept ∙ ap (λ (t : Thing). mark Near root root (term_in t)) (sym here.thing)
