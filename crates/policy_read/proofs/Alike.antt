-- Lists whose items are alike, one by one.
use Rattle.std.proofs.Common.{◌≡◌, ◌∙◌, ◌<◌, ◌≤◌, ◌+◌, ℕ, suc, List, [], ◌∷◌, length, map, drop, get_or, Bool, true, false, ◌&&◌, refl, sym, ap, ap₂, subst}
use Rattle.std.proofs.lemmas.List.{drop_more, drop_all, get_or-map, length-map}
use Rattle.serde_json.specs.Data.{Data}
use Rattle.serde_json.specs.View.{items_of}
use Rattle.policy_read.specs.Listed.{alike, items_list}

pub listed : (ds : List Data) → items_list (items_of ds) ≡ ds
listed [] = refl
listed (d ∷ ds) = ap (λ xs. d ∷ xs) (listed ds)

pub alike_short : (test : Data → Data → Bool) (fs ds : List Data) → ¬ length fs ≡ length ds → false ≡ alike test fs ds
alike_short test [] [] differ = absurd (differ refl)
alike_short test [] (d ∷ ds) differ = refl
alike_short test (f ∷ fs) [] differ = refl
alike_short test (f ∷ fs) (d ∷ ds) differ = by_test (test f d) (alike_short test fs ds (λ same. differ (ap suc same)))
  where
    by_test : (b : Bool) {c : Bool} → false ≡ c → false ≡ (b && c)
    by_test true is = is
    by_test false is = refl

-- tests of values of which the data are views
module _ {A : Type 0} (view : A → Data) (test : Data → Data → Bool) (fs ds : List A) (i : ℕ) where
  abbrev pub left : ℕ → Bool
  left j = alike test (drop j (map view fs)) (drop j (map view ds))

  pub views_short : ¬ length fs ≡ length ds → false ≡ alike test (map view fs) (map view ds)
  views_short differ = alike_short test (map view fs) (map view ds) (λ same. differ (sym (length-map fs view) ∙ same ∙ length-map ds view))

  pub views_all : length fs ≡ length ds → length fs ≤ i → left i ≡ alike test (map view fs) (map view ds) → true ≡ alike test (map view fs) (map view ds)
  views_all same all so =
      sym (ap₂ (alike test) (drop_all i (map view fs) (subst (λ n. n ≤ i) (sym (length-map fs view)) all))
      (drop_all i (map view ds) (subst (λ n. n ≤ i) (same ∙ sym (length-map ds view)) all)))
      ∙ so

  module _ (f d : A) (below : i < length fs) (same : length fs ≡ length ds) (is_f : f ≡ get_or fs i f) (is_d : d ≡ get_or ds i d) where
    next : (xs : List A) (x : A) → i < length xs → x ≡ get_or xs i x → drop i (map view xs) ≡ view x ∷ drop (i + 1) (map view xs)
    next xs x within is =
        drop_more (map view xs) i (view x) (subst (λ n. i < n) (sym (length-map xs view)) within)
        ∙ ap (λ y. y ∷ drop (i + 1) (map view xs)) (get_or-map view xs i x (view x) within ∙ sym (ap view is))

    step : left i ≡ (test (view f) (view d) && left (i + 1))
    step = ap₂ (alike test) (next fs f below is_f) (next ds d (subst (λ n. i < n) same below) is_d)

    pub views_more : test (view f) (view d) ≡ true → left i ≡ alike test (map view fs) (map view ds) → left (i + 1) ≡ alike test (map view fs) (map view ds)
    views_more is so = sym (step ∙ ap (λ b. b && left (i + 1)) is) ∙ so

    pub views_differ : test (view f) (view d) ≡ false → left i ≡ alike test (map view fs) (map view ds) → false ≡ alike test (map view fs) (map view ds)
    views_differ isnt so = sym (step ∙ ap (λ b. b && left (i + 1)) isnt) ∙ so
