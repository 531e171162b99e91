-- The first of a list that passes a test, and what comes of each item.
use Rattle.std.proofs.Common.{◌≡◌, ◌∙◌, ◌<◌, ◌≤◌, ◌+◌, ℕ, List, [], ◌∷◌, ◌++◌, length, map, drop, get_or, Bool, true, false, cond, Some, None, sym, ap, subst}
use Rattle.std.proofs.lemmas.List.{drop_more, drop_all, get_or-map, length-map, append_assoc}
use Rattle.std.specs.List.{position_from, flat_map}

module _ {A B : Type 0} (view : A → B) (xs : List A) (i : ℕ) where
  next_view : (x : A) → i < length xs → x ≡ get_or xs i x → drop i (map view xs) ≡ view x ∷ drop (i + 1) (map view xs)
  next_view x within is =
      drop_more (map view xs) i (view x) (subst (λ n. i < n) (sym (length-map xs view)) within)
      ∙ ap (λ y. y ∷ drop (i + 1) (map view xs)) (get_or-map view xs i x (view x) within ∙ sym (ap view is))

  no_view : length xs ≤ i → drop i (map view xs) ≡ []
  no_view all = drop_all i (map view xs) (subst (λ n. n ≤ i) (sym (length-map xs view)) all)

  module _ (test : B → Bool) where
    pub first_more : (x : A) → i < length xs → x ≡ get_or xs i x → test (view x) ≡ false
        → position_from test i (drop i (map view xs)) ≡ position_from test 0 (map view xs)
        → position_from test (i + 1) (drop (i + 1) (map view xs)) ≡ position_from test 0 (map view xs)
    first_more x within is isnt so =
        sym (ap (position_from test i) (next_view x within is) ∙ ap (λ b. cond b (Some i) (position_from test (i + 1) (drop (i + 1) (map view xs)))) isnt) ∙ so

    pub first_found : (x : A) → i < length xs → x ≡ get_or xs i x → test (view x) ≡ true
        → position_from test i (drop i (map view xs)) ≡ position_from test 0 (map view xs)
        → Some i ≡ position_from test 0 (map view xs)
    first_found x within is passes so =
        sym (ap (position_from test i) (next_view x within is) ∙ ap (λ b. cond b (Some i) (position_from test (i + 1) (drop (i + 1) (map view xs)))) passes) ∙ so

    pub first_none : length xs ≤ i → position_from test i (drop i (map view xs)) ≡ position_from test 0 (map view xs) → None ≡ position_from test 0 (map view xs)
    first_none all so = sym (ap (position_from test i) (no_view all)) ∙ so

  module _ {C : Type 0} (make : B → List C) (old : List C) where
    pub each_more : (x : A) (new : List C) → i < length xs → x ≡ get_or xs i x → new ≡ old ++ make (view x)
        → old ++ flat_map make (drop i (map view xs)) ≡ flat_map make (map view xs)
        → new ++ flat_map make (drop (i + 1) (map view xs)) ≡ flat_map make (map view xs)
    each_more x new within is made so =
        ap (λ ys. ys ++ flat_map make (drop (i + 1) (map view xs))) made ∙ append_assoc old (make (view x)) (flat_map make (drop (i + 1) (map view xs)))
        ∙ ap (λ ys. old ++ flat_map make ys) (sym (next_view x within is)) ∙ so
