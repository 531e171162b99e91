-- The first of a list that is not so.
use Rattle.std.proofs.Common.{arith, ◌≡◌, sym, ap, subst, ◌∙◌, inl, inr, ◌⊎◌, ℕ, zero, suc, ◌<◌, List, [], ◌∷◌, All, take, slice_get, Some}
use Rattle.std.proofs.lemmas.Bool.{cases_order}
use Rattle.std.proofs.lemmas.Option.{get_or_from_slice_get, none-some, same_Some, slice_get_within}
use Rattle.policy_eval.specs.Reports.{IsFirstOther}

module _ {A : Type 0} (IsSo : A → Type 0) where
  -- what stands in a list of which all are so
  pub all_so : (xs : List A) (n : ℕ) (x : A) → All IsSo xs → slice_get xs n ≡ Some x → IsSo x
  all_so xs n x all stands = subst IsSo (get_or_from_slice_get xs n x x stands) (all n x (slice_get_within xs n x stands))

  -- or in the first part of it
  before_so : (xs : List A) (m n : ℕ) (x : A) → All IsSo (take m xs) → n < m → slice_get xs n ≡ Some x → IsSo x
  before_so [] m n x all below stands = absurd (none-some x stands)
  before_so (y ∷ ys) zero n x all below stands = absurd (omega (arith, below))
  before_so (y ∷ ys) (suc m) zero x all below stands = subst IsSo (same_Some y x stands) (all 0 y (omega arith))
  before_so (y ∷ ys) (suc m) (suc n) x all below stands =
      before_so ys m n x (λ k d inside. all (suc k) d (omega (arith, inside))) (omega (arith, below)) stands

  -- where all are so there is none
  pub no_other : (xs : List A) (n : ℕ) (x : A) → All IsSo xs → IsFirstOther IsSo xs n x → ⊥
  no_other xs n x all first = first.other (all_so xs n x all first.stands)

  -- there is one alone
  pub same_number : (xs : List A) (n m : ℕ) (x y : A) → IsFirstOther IsSo xs n x → IsFirstOther IsSo xs m y → n ≡ m
  same_number xs n m x y one other = by_order (cases_order n m)
    where
      by_order : (n ≡ m) ⊎ ((n < m) ⊎ (m < n)) → n ≡ m
      by_order (inl same) = same
      by_order (inr (inl less)) = absurd (one.other (before_so xs m n x other.before less one.stands))
      by_order (inr (inr more)) = absurd (other.other (before_so xs n m y one.before more other.stands))

  pub same_first : (xs : List A) (n m : ℕ) (x y : A) → IsFirstOther IsSo xs n x → IsFirstOther IsSo xs m y → x ≡ y
  same_first xs n m x y one other = same_Some x y (sym one.stands ∙ ap (slice_get xs) (same_number xs n m x y one other) ∙ other.stands)
