-- Lists that are made one after the other, and values that exist.
use Rattle.std.proofs.Common.{◌≡◌, ◌∙◌, ap, sym, ℕ, ◌+◌, ◌<◌, List, [], ◌∷◌, ◌++◌, map, length, get_or, drop}
use Rattle.std.proofs.lemmas.List.{append_assoc, at_drop_more, map-append}

pub one_copied : {A B C : Type 0} (f : A → B) (g : C → B) (xs : List A) (i : ℕ) (d : A) (e : C) (list new : List C) → i < length xs → g e ≡ f (get_or xs i d) → new ≡ list ++ e ∷ []
    → map g list ++ map f (drop i xs) ≡ map f xs → map g new ++ map f (drop (i + 1) xs) ≡ map f xs
one_copied f g xs i d e list new below same added so_far =
    ap (λ es. map g es ++ map f (drop (i + 1) xs)) added
    ∙ ap (λ ys. ys ++ map f (drop (i + 1) xs)) (map-append g list (e ∷ []))
    ∙ append_assoc (map g list) (g e ∷ []) (map f (drop (i + 1) xs))
    ∙ ap (λ y. map g list ++ y ∷ map f (drop (i + 1) xs)) same
    ∙ sym (ap (λ ys. map g list ++ ys) (at_drop_more (map f) xs i d below))
    ∙ so_far
