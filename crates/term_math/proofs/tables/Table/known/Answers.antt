use Rattle.std.proofs.Common.{◌≡◌, ℕ, ◌+◌, ◌*◌, ◌<◌, ℤ, List, ◌∷◌, Vec, Global, length, get_or, drop, ap, arith, rules, subst, sym, ◌∙◌}
use Rattle.term_language.specs.Arrays.{indices, item_in, paired}
use Rattle.term_math.specs.Ascending.{ascends}
use Rattle.term_math.specs.Kept.{block, items_of, sets_of}
use Rattle.term_math.proofs.Ascents.{ascends_at}
use Rattle.term_math.proofs.Distinct.{Differ, behind_differs, block_some, dimension_differs}
use Rattle.term_math.proofs.Blocks.{block_length, found_number, missing_number, part_complete}
use Rattle.term_math.proofs.tables.Table.known.Goals as goal

pub returns-in_default-part : goal.returns-in_default-part
returns-in_default-part c =
    let elements = c.loop-set.elements.now in
    let xs = c.args.self.now.sets.items in
    let i = c.loop-set.set-index in
    let set = c.set-item.result in
    let number = c.in-Some.number.now in
    let later = c.in-Some.later.now in
    let rest : c.loop-set.rest.now ≡ number ∷ later = first_of (search rules, grind arith) in
    let width : ℕ = length (indices (sets_of (drop (i + 1) xs))) in
    let below : i < length xs = subst (λ (ys : List (Vec ℤ Global)). i < length ys) c.deref-set-items.ensures.value c.loop-set-test.true in
    let at : set ≡ get_or xs i set = subst (λ (ys : List (Vec ℤ Global)). set ≡ get_or ys i set) c.deref-set-items.ensures.value c.set-item.is in
    let whole = part_complete elements xs i set below at c.loop-set.invariant.1 in
    let none =
    sym (c.in_default-part.ensures width (whole ∙ ap (λ (s : List ℤ). length s * width) (sym c.as_slice.ensures.value))
    ∙ ap (λ (s : List ℤ). block number s width elements) c.as_slice.ensures.value) in
    sym (
    c.loop-set.invariant.0
    ∙ ap (item_in (paired (indices (sets_of (drop i xs))) (items_of elements))) rest
    ∙ missing_number elements number later xs i set below at c.loop-set.invariant.1 none
    )

pub loop-set-preserved : goal.loop-set-preserved
loop-set-preserved c =
    let elements = c.loop-set.elements.now in
    let xs = c.args.self.now.sets.items in
    let i = c.loop-set.set-index in
    let set = c.set-item.result in
    let number = c.in-Some.number.now in
    let later = c.in-Some.later.now in
    let found = c.in-Some-part.found.now in
    let rest : c.loop-set.rest.now ≡ number ∷ later = first_of (search rules, grind arith) in
    let width : ℕ = length (indices (sets_of (drop (i + 1) xs))) in
    let below : i < length xs = subst (λ (ys : List (Vec ℤ Global)). i < length ys) c.deref-set-items.ensures.value c.loop-set-test.true in
    let at : set ≡ get_or xs i set = subst (λ (ys : List (Vec ℤ Global)). set ≡ get_or ys i set) c.deref-set-items.ensures.value c.set-item.is in
    let whole = part_complete elements xs i set below at c.loop-set.invariant.1 in
    let is =
    sym (c.in-Some-part.ensures width (whole ∙ ap (λ (s : List ℤ). length s * width) (sym c.as_slice.ensures.value))
    ∙ ap (λ (s : List ℤ). block number s width elements) c.as_slice.ensures.value) in (
      c.loop-set.invariant.0
          ∙ ap (item_in (paired (indices (sets_of (drop i xs))) (items_of elements))) rest
          ∙ found_number elements number later xs i set found below at c.loop-set.invariant.1 is,
      block_length number set.items width elements found whole is,
      behind_differs xs i set below at (block_some number set.items width elements found is) c.loop-set.invariant.2,
    )

pub part-requires : goal.part-requires
part-requires c =
    let xs = c.args.self.now.sets.items in
    let i = c.loop-set.set-index in
    let set = c.set-item.result in
    let below : i < length xs = subst (λ (ys : List (Vec ℤ Global)). i < length ys) c.deref-set-items.ensures.value c.loop-set-test.true in
    let at : set ≡ get_or xs i set = subst (λ (ys : List (Vec ℤ Global)). set ≡ get_or ys i set) c.deref-set-items.ensures.value c.set-item.is in
    record {
      ascends = λ up. ap ascends c.as_slice.ensures.value ∙ ascends_at xs i set below at (c.args.self.now.ascend up);
      distinct = λ some.
          subst (λ (s : List ℤ). Differ s) (sym c.as_slice.ensures.value)
          (dimension_differs (length c.loop-set.elements.now) xs i set below at c.loop-set.invariant.1 c.loop-set.invariant.2 some);
    }
