-- What comes of the items of two lists, one by one.
use native.Mathlib.Omega.{arith}
use Rattle.std.proofs.Common.{◌≡◌, ◌∙◌, ◌⊎◌, inl, inr, ◌<◌, ◌≤◌, ◌+◌, ℕ, min, List, [], ◌∷◌, ◌++◌, length, map, drop, get_or, refl, sym, ap, ap₂, subst}
use Rattle.std.proofs.lemmas.List.{drop_more, drop_all, get_or-map, length-map, append_assoc, append-nil}
use Rattle.serde_json.specs.Data.{Data}
use Rattle.policy_read.specs.Listed.{pairwise}

module _ {B : Type 0} (make : Data → Data → List B) where
  none_left : (fs : List Data) → pairwise make fs [] ≡ []
  none_left [] = refl
  none_left (f ∷ fs) = refl

  none_behind : (fs ds : List Data) (i : ℕ) → min (length fs) (length ds) ≤ i → pairwise make (drop i fs) (drop i ds) ≡ []
  none_behind fs ds i all = by_length (search arith)
    where
      by_length : (length fs ≤ i) ⊎ (length ds ≤ i) → pairwise make (drop i fs) (drop i ds) ≡ []
      by_length (inl few) = ap (λ xs. pairwise make xs (drop i ds)) (drop_all i fs few)
      by_length (inr few) = ap (pairwise make (drop i fs)) (drop_all i ds few) ∙ none_left (drop i fs)

  -- pairs of values of which the data are views
  module _ {A : Type 0} (view : A → Data) (fs ds : List A) (i : ℕ) (old new : List B) where
    abbrev pub left : ℕ → List B
    left j = pairwise make (drop j (map view fs)) (drop j (map view ds))

    pub pairs_more : (f d : A) (next : List B) → i < min (length fs) (length ds) → f ≡ get_or fs i f → d ≡ get_or ds i d
        → next ≡ new ++ make (view f) (view d) → new ++ left i ≡ old ++ pairwise make (map view fs) (map view ds)
        → next ++ left (i + 1) ≡ old ++ pairwise make (map view fs) (map view ds)
    pairs_more f d next below is_f is_d is so =
        ap (λ xs. xs ++ left (i + 1)) is ∙ append_assoc new (make (view f) (view d)) (left (i + 1))
        ∙ ap (λ xs. new ++ xs) (sym (ap₂ (pairwise make) (first fs f (search (arith, below)) is_f) (first ds d (search (arith, below)) is_d))) ∙ so
      where
        first : (xs : List A) (x : A) → i < length xs → x ≡ get_or xs i x → drop i (map view xs) ≡ view x ∷ drop (i + 1) (map view xs)
        first xs x within same =
            drop_more (map view xs) i (view x) (subst (λ n. i < n) (sym (length-map xs view)) within)
            ∙ ap (λ y. y ∷ drop (i + 1) (map view xs)) (get_or-map view xs i x (view x) within ∙ sym (ap view same))

    pub pairs_all : min (length fs) (length ds) ≤ i → new ++ left i ≡ old ++ pairwise make (map view fs) (map view ds)
        → new ≡ old ++ pairwise make (map view fs) (map view ds)
    pairs_all all so =
        sym (append-nil new) ∙ sym (ap (λ xs. new ++ xs) (none_behind (map view fs) (map view ds) i (rw (length-map fs view, length-map ds view) all))) ∙ so
