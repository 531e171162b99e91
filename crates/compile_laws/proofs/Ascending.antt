-- Numbers that ascend: two such lists of the same numbers are one.
use Rattle.std.proofs.Common.{◌≡◌, refl, sym, subst, arith, ℤ, ◌<ℤ◌, List, [], ◌∷◌, inl, inr}
use Rattle.std.proofs.lemmas.Int.{ints}
use Rattle.policy_tree.proofs.Members.{In}
use Rattle.lang_laws.specs.Laws.{Ascends}

-- what stands behind a number is greater
pub above : (x : ℤ) (xs : List ℤ) → Ascends (x ∷ xs) → (y : ℤ) → In y xs → x <ℤ y
above x [] up y h = absurd h
above x (z ∷ zs) up y (inl e) = subst (λ w. x <ℤ w) e up.0
above x (z ∷ zs) up y (inr h) = let first = up.0 in let rest = above z zs up.1 y h in omega (arith, ints, first, rest)

pub later_ascends : (x : ℤ) (xs : List ℤ) → Ascends (x ∷ xs) → Ascends xs
later_ascends x [] up = tt
later_ascends x (y ∷ ys) up = up.1

no_less : (x y : ℤ) → x <ℤ y → y <ℤ x → ⊥
no_less x y one other = omega (arith, ints, one, other)

pub not_less : (x : ℤ) → x <ℤ x → ⊥
not_less x less = no_less x x less less

not_itself : (x y : ℤ) → x ≡ y → x <ℤ y → ⊥
not_itself x y same less = no_less y y (subst (λ z. z <ℤ y) same less) (subst (λ z. z <ℤ y) same less)

-- two lists that ascend and have the same numbers are one
pub same_numbers : (xs ys : List ℤ) → Ascends xs → Ascends ys → ((z : ℤ) → In z xs → In z ys) → ((z : ℤ) → In z ys → In z xs) → xs ≡ ys
same_numbers [] [] up also to back = refl
same_numbers [] (y ∷ ys) up also to back = absurd (back y (inl refl))
same_numbers (x ∷ xs) [] up also to back = absurd (to x (inl refl))
same_numbers (x ∷ xs) (y ∷ ys) up also to back =
    λ i. first i ∷ same_numbers xs ys (later_ascends x xs up) (later_ascends y ys also) (λ z h. to_later z h (to z (inr h))) (λ z h. back_later z h (back z (inr h))) i
  where
    first_of : In x (y ∷ ys) → In y (x ∷ xs) → x ≡ y
    first_of (inl e) other = sym e
    first_of (inr h) (inl e) = e
    first_of (inr h) (inr g) = absurd (no_less y x (above y ys also x h) (above x xs up y g))

    first : x ≡ y
    first = first_of (to x (inl refl)) (back y (inl refl))

    to_later : (z : ℤ) → In z xs → In z (y ∷ ys) → In z ys
    to_later z h (inl e) = absurd (not_itself y z e (subst (λ w. w <ℤ z) first (above x xs up z h)))
    to_later z h (inr g) = g

    back_later : (z : ℤ) → In z ys → In z (x ∷ xs) → In z xs
    back_later z h (inl e) = absurd (not_itself x z e (subst (λ w. w <ℤ z) (sym first) (above y ys also z h)))
    back_later z h (inr g) = g
