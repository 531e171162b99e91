-- The places of the indices of sets, in lexicographic order.
use Rattle.std.proofs.Common.{◌≡◌, refl, sym, ap, ◌∙◌, ℕ, ◌+◌, ◌<◌, ◌≤◌, ℤ, List, [], ◌∷◌, ◌++◌, length, map, get_or, drop, Option}
use Rattle.std.proofs.lemmas.List.{at_drop_more, at_drop_all, map-append, append_assoc, append-nil}
use Rattle.std.proofs.lemmas.Simd.{map-map}
use Rattle.std.specs.List.{flat_map}
use Rattle.std.specs.declared.alloc.Global.{Global}
use Rattle.std.specs.declared.vec.Vec.{Vec}
use Rattle.sopl_base.proofs.Lists.{map_same}
use Rattle.term_language.specs.Arrays.{indices}
use Rattle.compile_names.specs.declared.first_places.Places.{Places}
use Rattle.term_math.specs.Kept as kept
use Rattle.compile_names.specs.Kept.{place_in, places_behind}
use Rattle.compile_names.specs.Plans.{place_among}

module _ (places : Places) (numbers : List ℤ) where
  -- no set is left
  pub last_place : (order new : List (Option ℕ)) (index : List ℤ) → index ≡ numbers → new ≡ order ++ place_in places index ∷ [] → new ≡ order ++ places_behind places numbers []
  last_place order new index same is = is ∙ ap (λ x. order ++ place_in places x ∷ []) (same ∙ sym (append-nil numbers))

  -- the indices that begin with each of some numbers
  abbrev pub each_behind : List (Vec ℤ Global) → List ℤ → List (Option ℕ)
  each_behind later set = flat_map (λ n. places_behind places (numbers ++ n ∷ []) later) set

  -- the indices of one set and of those that follow
  pub set_behind : (rest : List (List ℤ)) (set : List ℤ)
      → map (λ more. place_in places (numbers ++ more)) (flat_map (λ n. map (λ more. n ∷ more) rest) set)
      ≡ flat_map (λ n. map (λ more. place_in places ((numbers ++ n ∷ []) ++ more)) rest) set
  set_behind rest [] = refl
  set_behind rest (n ∷ set) =
      map-append (λ more. place_in places (numbers ++ more)) (map (λ more. n ∷ more) rest) (flat_map (λ n. map (λ more. n ∷ more) rest) set)
      ∙ (λ i. first i ++ set_behind rest set i)
    where
      first : map (λ more. place_in places (numbers ++ more)) (map (λ more. n ∷ more) rest) ≡ map (λ more. place_in places ((numbers ++ n ∷ []) ++ more)) rest
      first =
          map-map (λ more. place_in places (numbers ++ more)) (λ more. n ∷ more) rest
          ∙ map_same (λ more. place_in places (numbers ++ n ∷ more)) (λ more. place_in places ((numbers ++ n ∷ []) ++ more))
          (λ more. ap (place_in places) (sym (append_assoc numbers (n ∷ []) more))) rest

  pub sets_behind : (set : Vec ℤ Global) (later : List (Vec ℤ Global)) → places_behind places numbers (set ∷ later) ≡ each_behind later set.items
  sets_behind set later = set_behind (indices (kept.sets_of later)) set.items

  module _ (later : List (Vec ℤ Global)) (set : List ℤ) (i : ℕ) where
    -- one number more
    pub number_listed : (n : ℤ) (order new : List (Option ℕ)) (index : List ℤ) → i < length set → n ≡ get_or set i n → index ≡ numbers
        → new ≡ order ++ places_behind places (index ++ n ∷ []) later → new ++ each_behind later (drop (i + 1) set) ≡ order ++ each_behind later (drop i set)
    number_listed n order new index below at same is =
        ap (λ list. list ++ each_behind later (drop (i + 1) set)) (is ∙ ap (λ x. order ++ places_behind places (x ++ n ∷ []) later) same)
        ∙ append_assoc order (places_behind places (numbers ++ n ∷ []) later) (each_behind later (drop (i + 1) set))
        ∙ ap (λ rest. order ++ rest) (ap (λ m. each_behind later (m ∷ drop (i + 1) set)) at ∙ sym (at_drop_more (λ rest. each_behind later rest) set i n below))

    -- none is left
    pub numbers_listed : (order : List (Option ℕ)) → length set ≤ i → order ++ each_behind later (drop i set) ≡ order
    numbers_listed order past = ap (λ rest. order ++ rest) (at_drop_all (λ rest. each_behind later rest) set i past) ∙ append-nil order

pub ruleset ordering = (last_place, sets_behind, number_listed, numbers_listed)

-- from no number on
pub order_is : (places : Places) (given : List (List ℤ)) (sets : List (Vec ℤ Global)) (order new : List (Option ℕ)) (index : List ℤ)
    → ((x : List ℤ) → place_in places x ≡ place_among 0 given x) → order ≡ [] → index ≡ [] → new ≡ order ++ places_behind places index sets
    → new ≡ map (place_among 0 given) (indices (kept.sets_of sets))
order_is places given sets order new index same empty none is =
    is ∙ (λ i. empty i ++ places_behind places (none i) sets) ∙ map_same (λ x. place_in places x) (place_among 0 given) same (indices (kept.sets_of sets))
