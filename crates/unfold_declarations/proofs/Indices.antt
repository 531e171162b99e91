-- Lists that are made for each index of an array.
use Rattle.std.proofs.Common.{◌≡◌, sym, ap, ◌∙◌, ℤ, List, [], ◌∷◌, ◌++◌, map}
use Rattle.std.proofs.lemmas.List.{append_assoc}
use Rattle.std.proofs.lemmas.List.Folds.{flat_map-map}
use Rattle.std.specs.List.{flat_map}
use Rattle.sopl_base.proofs.Lists.{flat_map-flat_map, map-flat_map, map-map}
use Rattle.sopl_ast.specs.Arrays.{Dimension, indices}

flat_map_same : {A B : Type 0} (f g : A → List B) → ((x : A) → f x ≡ g x) → (xs : List A) → flat_map f xs ≡ flat_map g xs
flat_map_same f g same xs = ap (λ h. flat_map h xs) (λ i x. same x i)

-- something for each index, by the first number of it
pub flat_map_indices : {A : Type 0} (f : List ℤ → List A) (d : Dimension) (ds : List Dimension)
    → flat_map (λ n. flat_map (λ later. f (n ∷ later)) (indices ds)) d.numbers ≡ flat_map f (indices (d ∷ ds))
flat_map_indices f d ds =
    flat_map_same _ (λ n. flat_map f (map (λ later. n ∷ later) (indices ds))) (λ n. sym (flat_map-map f (λ later. n ∷ later) (indices ds))) d.numbers
    ∙ sym (flat_map-flat_map f (λ n. map (λ later. n ∷ later) (indices ds)) d.numbers)

pub map_indices : {A : Type 0} (f : List ℤ → A) (d : Dimension) (ds : List Dimension)
    → flat_map (λ n. map (λ later. f (n ∷ later)) (indices ds)) d.numbers ≡ map f (indices (d ∷ ds))
map_indices f d ds =
    flat_map_same _ (λ n. map f (map (λ later. n ∷ later) (indices ds))) (λ n. sym (map-map f (λ later. n ∷ later) (indices ds))) d.numbers
    ∙ sym (map-flat_map f (λ n. map (λ later. n ∷ later) (indices ds)) d.numbers)

-- one number more in front of an index
pub one_longer : (index later : List ℤ) (n : ℤ) → (index ++ n ∷ []) ++ later ≡ index ++ n ∷ later
one_longer index later n = append_assoc index (n ∷ []) later
