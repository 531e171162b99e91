-- Lists by the numbers of their elements.
use Rattle.std.proofs.Common.{arith, inl, inr, ◌⊎◌, IsSome, ◌≡◌, refl, sym, ap, subst, ◌∙◌, ℕ, zero, suc, ◌+◌, ◌<◌, Bool, true, false, List, [], ◌∷◌, All, drop, take, length, map, slice_get, Option, Some, None}
use Rattle.std.proofs.lemmas.Bool.{cases_order}
use Rattle.std.proofs.lemmas.List.Elements.{All-cons, All-nil}
use Rattle.std.proofs.lemmas.Option.{get_or_from_slice_get, none-some, same_Some, slice_get_within}
use Rattle.sopl_base.proofs.Lists.{drop_next}
use Rattle.term_problem.proofs.Lists.{all_from}
use Rattle.std.specs.Option.{is_some}
use Rattle.sopl_ast.specs.Numbers.{all_of, both_of}
use Rattle.std.specs.List.{range_with_len}
use Rattle.policy_eval.specs.Reports.{IsFirstOther}
use Rattle.policy_eval.specs.Tried.{IsFirstFalse}

module _ {A : Type 0} where
  -- what holds of each element of the first part of a list
  pub all_first : (P : A → Type 0) (k : ℕ) (xs : List A) → ((i : ℕ) (x : A) → i < k → slice_get xs i ≡ Some x → P x) → All P (take k xs)
  all_first P zero [] each = All-nil P
  all_first P zero (x ∷ xs) each = All-nil P
  all_first P (suc k) [] each = All-nil P
  all_first P (suc k) (x ∷ xs) each = All-cons P x (take k xs) (each 0 x (omega arith) refl) (all_first P k xs (λ i y below at. each (suc i) y (omega (arith, below)) at))

  -- there is an element below the length
  pub there : (xs : List A) (i : ℕ) → i < length xs → (x : A) × (slice_get xs i ≡ Some x)
  there [] i below = absurd (omega (arith, below))
  there (x ∷ xs) zero below = (x, refl)
  there (x ∷ xs) (suc i) below = there xs i (omega (arith, below))

  -- a list that is made of numbers, and one that is made of elements
  pub by_numbers : {B : Type 0} (f : ℕ → B) (g : A → B) (n : ℕ) (xs : List A) → ((i : ℕ) (x : A) → slice_get xs i ≡ Some x → f (n + i) ≡ g x) → map f (range_with_len n (length xs)) ≡ map g xs
  by_numbers f g n [] each = refl
  by_numbers f g n (x ∷ xs) each =
      let here : f n ≡ g x = ap f (omega arith) ∙ each 0 x refl in
      let later = by_numbers f g (n + 1) xs (λ i y at. ap f (omega arith) ∙ each (suc i) y at) in
      λ j. here j ∷ later j

  -- one more of which it holds
  pub one_more : (P : A → Type 0) (xs : List A) (i : ℕ) (x : A) → slice_get xs i ≡ Some x → P x → ((j : ℕ) (y : A) → j < i → slice_get xs j ≡ Some y → P y)
      → (j : ℕ) (y : A) → j < i + 1 → slice_get xs j ≡ Some y → P y
  one_more P xs i x at here before j y below stands = by_order (cases_order j i)
    where
      by_order : (j ≡ i) ⊎ ((j < i) ⊎ (i < j)) → P y
      by_order (inl same) = subst P (same_Some x y (sym at ∙ ap (slice_get xs) (sym same) ∙ stands)) here
      by_order (inr (inl less)) = before j y less stands
      by_order (inr (inr more)) = absurd (omega (arith, more, below))

  -- what is left behind the first elements
  pub left_at : (xs : List A) (i : ℕ) (x : A) → slice_get xs i ≡ Some x → drop i xs ≡ x ∷ drop (i + 1) xs
  left_at xs i x at = drop_next xs i x (slice_get_within xs i x at) (sym (get_or_from_slice_get xs i x x at))

  -- all values by numbers, and by elements
  pub all_numbers : {B : Type 0} (f : ℕ → Option B) (g : A → Option B) (n : ℕ) (xs : List A) → ((i : ℕ) (x : A) → slice_get xs i ≡ Some x → f (n + i) ≡ g x)
      → all_of f (range_with_len n (length xs)) ≡ all_of g xs
  all_numbers f g n [] each = refl
  all_numbers f g n (x ∷ xs) each =
      let here : f n ≡ g x = ap f (omega arith) ∙ each 0 x refl in
      let later = all_numbers f g (n + 1) xs (λ i y at. ap f (omega arith) ∙ each (suc i) y at) in
      λ j. both_of (λ y ys. y ∷ ys) (here j) (later j)

  pub valued_by : {B : Type 0} (f : ℕ → Option B) (g : A → Option B) (xs : List A) → ((i : ℕ) (x : A) → slice_get xs i ≡ Some x → f i ≡ g x) → all_of f (range_with_len 0 (length xs)) ≡ all_of g xs
  valued_by f g xs each = all_numbers f g 0 xs (λ i x at. ap f (omega arith) ∙ each i x at)

  pub listed_by : {B : Type 0} (f : ℕ → B) (g : A → B) (xs : List A) → ((i : ℕ) (x : A) → slice_get xs i ≡ Some x → f i ≡ g x) → map f (range_with_len 0 (length xs)) ≡ map g xs
  listed_by f g xs each = by_numbers f g 0 xs (λ i x at. ap f (omega arith) ∙ each i x at)

  -- where all values are there, each is
  pub each_there : {B : Type 0} (f : A → Option B) (xs : List A) (ys : List B) → all_of f xs ≡ Some ys → (i : ℕ) (x : A) → slice_get xs i ≡ Some x → IsSome (f x)
  each_there f [] ys all i x at = absurd (none-some x at)
  each_there {B} f (z ∷ zs) ys all i x at = by_options (f z) refl (all_of f zs) refl all i at (λ more q j there. each_there f zs more q j x there)
    where
      by_options : (a : Option B) → f z ≡ a → (b : Option (List B)) → all_of f zs ≡ b → both_of (λ y more. y ∷ more) a b ≡ Some ys → (i : ℕ) → slice_get (z ∷ zs) i ≡ Some x
          → ((more : List B) → all_of f zs ≡ Some more → (j : ℕ) → slice_get zs j ≡ Some x → IsSome (f x)) → IsSome (f x)
      by_options None p b q h i at later = absurd (none-some ys h)
      by_options (Some y) p None q h i at later = absurd (none-some ys h)
      by_options (Some y) p (Some more) q h zero at later = ap is_some (ap f (sym (same_Some z x at)) ∙ p)
      by_options (Some y) p (Some more) q h (suc i) at later = later more q i at

  -- the first number of a failing test
  module _ (IsSo : A → Type 0) (test : ℕ → Bool) (xs : List A) (n : ℕ) (many : n ≡ length xs) (so : (i : ℕ) (x : A) → slice_get xs i ≡ Some x → test i ≡ true → IsSo x)
      (other : (i : ℕ) (x : A) → slice_get xs i ≡ Some x → test i ≡ false → ¬ IsSo x) where
    pub all_true : IsFirstFalse test n None → All IsSo xs
    all_true first = all_from IsSo xs (λ i x at. so i x at (first i (omega (arith, slice_get_within xs i x at, many))))

    pub first_false : (k : ℕ) (x : A) → slice_get xs k ≡ Some x → IsFirstFalse test n (Some k) → IsFirstOther IsSo xs k x
    first_false k x at first =
        record { stands = at; other = other k x at first.1; before = all_first IsSo k xs (λ i y below stands. so i y stands (first.2 i below)) }
