-- The numbers at places of indices, one by one.
use Rattle.std.proofs.Common.{arith, ◌≡◌, sym, ap, ◌∙◌, ℕ, ◌+◌, ◌<◌, ◌≤◌, ℤ, pos, List, [], ◌∷◌, ◌++◌, length, map, get_or, drop, Bor}
use Rattle.std.proofs.lemmas.List.{at_drop_more, at_drop_all, map-append}
use Rattle.std.proofs.lemmas.List.FromFn.{map-range_with_len_more}
use Rattle.std.specs.BTreeSet.{insert_key}
use Rattle.std.specs.List.{fold, range_with_len}
use Rattle.std.specs.Ordering.{int_cmp}
use Rattle.std.specs.declared.alloc.Global.{Global}
use Rattle.std.specs.declared.vec.Vec.{Vec}
use Rattle.sopl_ast.specs.References.{now_of}
use Rattle.term_math.specs.Kept as kept
use Rattle.compile_names.specs.Kept.{column}

-- one set more
pub column_more : (given : List (List ℤ)) (place : ℕ) (sets new : List (Vec ℤ Global)) (set : Vec ℤ Global)
    → kept.sets_of sets ≡ map (column given) (range_with_len 0 place) → set.items ≡ column given place → new ≡ sets ++ set ∷ []
    → kept.sets_of new ≡ map (column given) (range_with_len 0 (place + 1))
column_more given place sets new set before here is =
    ap kept.sets_of is
    ∙ map-append (λ (s : Vec ℤ Global). s.items) sets (set ∷ [])
    ∙ (λ i. before i ++ here i ∷ [])
    ∙ sym (map-range_with_len_more (column given) 0 place place (omega arith))

-- what is left is put behind what was put
abbrev pub rest : ℕ → List ℤ → List (Bor (List ℤ)) → List ℤ
rest place keys left = fold (insert_key int_cmp) keys (map (λ index. get_or index place (pos 0)) (map now_of left))

module _ (xs : List (Bor (List ℤ))) (i place : ℕ) where
  -- one number more
  pub number_more : (x : Bor (List ℤ)) (keys new : List ℤ) → i < length xs → x ≡ get_or xs i x → new ≡ insert_key int_cmp keys (get_or x.now place (pos 0))
      → rest place new (drop (i + 1) xs) ≡ rest place keys (drop i xs)
  number_more x keys new below at is =
      ap (λ k. rest place k (drop (i + 1) xs)) is
      ∙ ap (λ y. rest place keys (y ∷ drop (i + 1) xs)) at
      ∙ sym (at_drop_more (λ left. rest place keys left) xs i x below)

  -- none is left
  pub numbers_end : (keys : List ℤ) → length xs ≤ i → rest place keys (drop i xs) ≡ keys
  numbers_end keys past = at_drop_all (λ left. rest place keys left) xs i past

-- all places are passed
pub columns_end : (given : List (List ℤ)) (place count : ℕ) (sets : List (Vec ℤ Global)) → place ≡ count → kept.sets_of sets ≡ map (column given) (range_with_len 0 place)
    → kept.sets_of sets ≡ map (column given) (range_with_len 0 count)
columns_end given place count sets all are = are ∙ ap (λ n. map (column given) (range_with_len 0 n)) all
