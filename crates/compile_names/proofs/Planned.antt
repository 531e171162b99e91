-- The table of elements is that of their indices and their items.
use Rattle.std.proofs.Common.{◌≡◌, refl, sym, ap, ◌∙◌, arith, ℕ, suc, ◌+◌, ℤ, pos, Bool, true, false, cond, List, [], ◌∷◌, map, Option, Some, None, option_map, option_and_then, slice_get}
use Rattle.std.proofs.lemmas.Simd.{map-map}
use Rattle.std.specs.Option.{unwrap_or}
use Rattle.sopl_base.proofs.Lists.{map_same}
use Rattle.term_language.specs.Terms.{Item, Fixed}
use Rattle.term_language.specs.Arrays.{Entry, indices, same_index, item_in}
use Rattle.compile_laws.specs.Instances.{sets_of}
use Rattle.compile_names.specs.Plans.{place_among, picked, TablesArePlanned}

abbrev index_in : Entry → List ℤ
index_in e = e.index

abbrev item_of : Entry → Item
item_of e = e.item

-- one more stands before all
shifted : (given : List (List ℤ)) (before : ℕ) (index : List ℤ) → place_among (suc before) given index ≡ option_map suc (place_among before given index)
shifted [] before index = refl
shifted (first ∷ later) before index = by (same_index first index) (ap (λ n. place_among n later index) more ∙ shifted later (before + 1) index)
  where
    more : suc before + 1 ≡ suc (before + 1)
    more = omega arith

    by : (same : Bool) → place_among (suc before + 1) later index ≡ option_map suc (place_among (before + 1) later index)
        → cond same (Some (suc before)) (place_among (suc before + 1) later index) ≡ option_map suc (cond same (Some before) (place_among (before + 1) later index))
    by true rest = refl
    by false rest = rest

-- behind one item
behind_one : (item : Item) (items : List Item) (place : Option ℕ) → option_and_then (slice_get (item ∷ items)) (option_map suc place) ≡ option_and_then (slice_get items) place
behind_one item items None = refl
behind_one item items (Some n) = refl

-- the item at an index is that at its place
item_placed : (entries : List Entry) (index : List ℤ) → item_in entries index ≡ option_and_then (slice_get (map item_of entries)) (place_among 0 (map index_in entries) index)
item_placed [] index = refl
item_placed (e ∷ later) index = by (same_index e.index index) (item_placed later index)
  where
    by : (same : Bool) → item_in later index ≡ option_and_then (slice_get (map item_of later)) (place_among 0 (map index_in later) index)
        → cond same (Some e.item) (item_in later index)
        ≡ option_and_then (slice_get (e.item ∷ map item_of later)) (cond same (Some 0) (place_among 1 (map index_in later) index))
    by true rest = refl
    by false rest =
        rest
        ∙ sym (behind_one e.item (map item_of later) (place_among 0 (map index_in later) index))
        ∙ ap (option_and_then (slice_get (e.item ∷ map item_of later))) (sym (shifted (map index_in later) 0 index))

pub tables_are_planned : TablesArePlanned
tables_are_planned entries =
    ap (λ items. record { sets = sets_of (map index_in entries); items = items })
    (map_same (λ index. unwrap_or (item_in entries index) (Fixed (pos 0))) (λ index. picked (map item_of entries) (place_among 0 (map index_in entries) index))
    (λ index. ap (λ item. unwrap_or item (Fixed (pos 0))) (item_placed entries index)) (indices (sets_of (map index_in entries)))
    ∙ sym (map-map (picked (map item_of entries)) (place_among 0 (map index_in entries)) (indices (sets_of (map index_in entries)))))
