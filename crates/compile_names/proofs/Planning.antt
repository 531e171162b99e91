-- The array of elements is the one that their plan gives.
use Rattle.std.proofs.Common.{◌≡◌, sym, ap, ◌∙◌, ℕ, ◌+◌, ◌<◌, ◌≤◌, ℤ, List, [], ◌∷◌, ◌++◌, length, map, get_or, drop, slice_get, pos, option_map, Option, Some, None, Result, Ok, Err, IfOk, Bor}
use Rattle.std.proofs.lemmas.List.{at_drop_more, at_drop_all, append_assoc, append-nil, map-append}
use Rattle.std.proofs.lemmas.Option.{slice_get-map}
use Rattle.std.proofs.lemmas.Simd.{map-map}
use Rattle.std.specs.Option.{unwrap_or}
use Rattle.std.specs.declared.alloc.Global.{Global}
use Rattle.std.specs.declared.vec.Vec.{Vec}
use Rattle.sopl_scen.specs.Layout.{Layout}
use Rattle.sopl_ast.specs.Instances.{Decision, Stochastic}
use Rattle.sopl_ast.specs.Known.{Constant, Known}
use Rattle.sopl_ast.specs.References.{now_of}
use Rattle.term_language.specs.Terms.{Fixed}
use Rattle.term_language.specs.Arrays.{Entry}
use Rattle.compile_laws.specs.Instances.{elements, sets_of, table_of}
use Rattle.compile_names.specs.Plans.{order_of, picked, planned}
use Rattle.compile_names.proofs.Planned.{tables_are_planned}
use Rattle.compile_names.specs.declared.arrays.Array.{Array}
use Rattle.compile_names.specs.declared.origins.Origin.{Origin}
use Rattle.compile_names.specs.declared.origins.Source.{Source}
use Rattle.compile_names.specs.Tables.{index_shown, items_in, table_in}
use Rattle.compile_names.specs.Places.{place_in}
use Rattle.compile_names.specs.Variables.{entry_from, item_from}

-- Indices.

module _ (xs : List Source) (k : ℕ) where
  pub index_more : (x : Source) (old new : List (Bor (List ℤ))) → k < length xs → x ≡ get_or xs k x → new ≡ old ++ x.index ∷ []
      → map now_of new ++ map index_shown (drop (k + 1) xs) ≡ map now_of old ++ map index_shown (drop k xs)
  index_more x old new below at is =
      ap (λ l. map now_of l ++ map index_shown (drop (k + 1) xs)) is
      ∙ ap (λ l. l ++ map index_shown (drop (k + 1) xs)) (map-append now_of old (x.index ∷ []))
      ∙ append_assoc (map now_of old) (x.index.now ∷ []) (map index_shown (drop (k + 1) xs))
      ∙ ap (λ rest. map now_of old ++ rest) (ap (λ y. map index_shown (y ∷ drop (k + 1) xs)) at ∙ sym (at_drop_more (λ rest. map index_shown rest) xs k x below))

  pub indices_end : (found : List (Bor (List ℤ))) → length xs ≤ k → map now_of found ++ map index_shown (drop k xs) ≡ map now_of found
  indices_end found past = ap (λ rest. map now_of found ++ rest) (at_drop_all (λ rest. map index_shown rest) xs k past) ∙ append-nil (map now_of found)

-- Items.

module _ (sources : List Source) (xs : List (Option ℕ)) (k : ℕ) where
  pub origin_more : (d : Option ℕ) (origin : Origin) (old new : List Origin) → k < length xs
      → ((tree : Layout) (i : ℕ) → item_from tree i origin ≡ picked (items_in tree i sources) (get_or xs k d)) → new ≡ old ++ origin ∷ [] → (tree : Layout) (i : ℕ)
      → map (item_from tree i) new ++ map (picked (items_in tree i sources)) (drop (k + 1) xs) ≡ map (item_from tree i) old ++ map (picked (items_in tree i sources)) (drop k xs)
  origin_more d origin old new below same is tree i =
      ap (λ l. map (item_from tree i) l ++ map (picked (items_in tree i sources)) (drop (k + 1) xs)) is
      ∙ ap (λ l. l ++ map (picked (items_in tree i sources)) (drop (k + 1) xs)) (map-append (item_from tree i) old (origin ∷ []))
      ∙ append_assoc (map (item_from tree i) old) (item_from tree i origin ∷ []) (map (picked (items_in tree i sources)) (drop (k + 1) xs))
      ∙ ap (λ e. map (item_from tree i) old ++ e ∷ map (picked (items_in tree i sources)) (drop (k + 1) xs)) (same tree i)
      ∙ ap (λ rest. map (item_from tree i) old ++ rest)
      (sym (at_drop_more (λ rest. map (picked (items_in tree i sources)) rest) xs k d below))

  pub origins_end : (found : List Origin) → length xs ≤ k → (tree : Layout) (i : ℕ)
      → map (item_from tree i) found ++ map (picked (items_in tree i sources)) (drop k xs) ≡ map (item_from tree i) found
  origins_end found past tree i =
      ap (λ rest. map (item_from tree i) found ++ rest) (at_drop_all (λ rest. map (picked (items_in tree i sources)) rest) xs k past) ∙ append-nil (map (item_from tree i) found)

-- the item of a number that is there
pub picked_some : (sources : List Source) (place : ℕ) (source : Source) → slice_get sources place ≡ Some source → (tree : Layout) (i : ℕ)
    → item_from tree i source.origin ≡ picked (items_in tree i sources) (Some place)
picked_some sources place source at tree i =
    sym (ap (λ o. unwrap_or o (Fixed (pos 0))) (slice_get-map (λ (x : Source). item_from tree i x.origin) sources place ∙ ap (option_map (λ (x : Source). item_from tree i x.origin)) at))

-- and of one that is not
pub picked_none : (sources : List Source) (place : ℕ) → slice_get sources place ≡ None → (tree : Layout) (i : ℕ) → Fixed (pos 0) ≡ picked (items_in tree i sources) (Some place)
picked_none sources place at tree i =
    sym (ap (λ o. unwrap_or o (Fixed (pos 0))) (slice_get-map (λ (x : Source). item_from tree i x.origin) sources place ∙ ap (option_map (λ (x : Source). item_from tree i x.origin)) at))

-- The array.

pub planned_array : (sources : List Source) (given : List (Bor (List ℤ))) (array : Array) (order : List (Option ℕ)) → map now_of given ≡ map index_shown sources
    → map (λ (set : Vec ℤ Global). set.items) array.sets.items ≡ sets_of (map now_of given) → order ≡ order_of (map now_of given)
    → ((tree : Layout) (i : ℕ) → map (item_from tree i) array.origins.items ≡ map (picked (items_in tree i sources)) order) → (tree : Layout) (i : ℕ)
    → table_in tree i array ≡ table_of (map (entry_from tree i) sources)
planned_array sources given array order indices sets is items tree i =
    (λ k. record { sets = (sets ∙ ap sets_of indices) k; items = (items tree i ∙ ap (map (picked (items_in tree i sources))) (is ∙ ap order_of indices)) k })
    ∙ (λ k. planned (sym (map-map (λ (e : Entry). e.index) (entry_from tree i) sources) k) (sym (map-map (λ (e : Entry). e.item) (entry_from tree i) sources) k))
    ∙ sym (tables_are_planned (map (entry_from tree i) sources))

-- the array of a name
pub array_either : {E : Type 0} (result : Result Array E) (sources : List Source) (name : List ℕ) (ks : List Constant) (ds : List Decision) (ss : List Stochastic)
    → IfOk result (λ array. (tree : Layout) (i : ℕ) → table_in tree i array ≡ table_of (map (entry_from tree i) sources))
    → ((known : Known) (tree : Layout) (i : ℕ) → known.constants ≡ ks → map (entry_from tree i) sources ≡ elements (place_in ds ss tree i known) name)
    → IfOk result (λ array. (known : Known) (tree : Layout) (i : ℕ) → known.constants ≡ ks → table_in tree i array ≡ table_of (elements (place_in ds ss tree i known) name))
array_either (Ok array) sources name ks ds ss made are = λ known tree i same. made tree i ∙ ap table_of (are known tree i same)
array_either (Err e) sources name ks ds ss made are = tt
