-- Numbers from 0 on.
use Rattle.std.proofs.Common.{arith, ◌≡◌, ◌∙◌, refl, ap, ℕ, suc, ◌+◌, ◌<◌, ◌≤◌, List, [], ◌∷◌, map, length, drop, Some, slice_get}
use Rattle.std.proofs.lemmas.List.{at_drop_all, at_drop_more}
use Rattle.std.proofs.lemmas.List.FromFn.{get_or-range_with_len, length-range_with_len}
use Rattle.std.specs.List.{range_with_len}

pub next_number : {A : Type 0} (f : ℕ → A) (n i : ℕ) → i < n → map f (drop i (range_with_len 0 n)) ≡ f i ∷ map f (drop (i + 1) (range_with_len 0 n))
next_number f n i below =
    at_drop_more (map f) (range_with_len 0 n) i 0 (omega (arith, below, length-range_with_len 0 n))
    ∙ ap (λ k. f k ∷ map f (drop (i + 1) (range_with_len 0 n))) (get_or-range_with_len 0 n i 0 below ∙ omega arith)

pub no_number : {A : Type 0} (f : ℕ → A) (n i : ℕ) → n ≤ i → map f (drop i (range_with_len 0 n)) ≡ []
no_number f n i past = at_drop_all (map f) (range_with_len 0 n) i (omega (arith, past, length-range_with_len 0 n))

-- what is said of the numbers of elements is said of the elements
by_number : {A B : Type 0} (f : ℕ → A) (g : B → A) (first : ℕ) (xs : List B) → ((i : ℕ) (x : B) → slice_get xs i ≡ Some x → f (first + i) ≡ g x)
    → map f (range_with_len first (length xs)) ≡ map g xs
by_number f g first [] each = refl
by_number {A} {B} f g first (x ∷ xs) each =
    let here : f first ≡ g x = ap f (omega arith) ∙ each 0 x refl in
    let later : (i : ℕ) (y : B) → slice_get xs i ≡ Some y → f ((first + 1) + i) ≡ g y = λ i y at. ap f (omega arith) ∙ each (suc i) y at in
    λ k. here k ∷ by_number f g (first + 1) xs later k

pub by_numbers : {A B : Type 0} (f : ℕ → A) (g : B → A) (xs : List B) → ((i : ℕ) (x : B) → slice_get xs i ≡ Some x → f i ≡ g x) → map f (range_with_len 0 (length xs)) ≡ map g xs
by_numbers f g xs each = by_number f g 0 xs (λ i x at. ap f (omega arith) ∙ each i x at)
