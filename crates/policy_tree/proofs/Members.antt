-- Which elements a list has, by recursion over the list.
use Rattle.std.proofs.Common.{◌≡◌, refl, sym, ap, subst, ◌∙◌, ℕ, zero, suc, ◌+◌, Bool, true, false, cond, List, [], ◌∷◌, ◌++◌, map, ◌⊎◌, inl, inr, Contains, filter, flat_map}
use Rattle.std.proofs.Common.{slice_get, Some, arith, add-zero}
use Rattle.std.specs.List.{enumerate_from}

-- x is an element of the list
abbrev pub In : {X : Type 0} → X → List X → Type 0
In x [] = ⊥
In x (y ∷ ys) = (y ≡ x) ⊎ In x ys

pub In-Contains : {X : Type 0} (xs : List X) (x : X) → Contains xs x → In x xs
In-Contains [] x (k, within, is) = absurd (omega arith)
In-Contains (y ∷ ys) x (zero, within, is) = inl is
In-Contains (y ∷ ys) x (suc k, within, is) = inr (In-Contains ys x (k, omega arith, is))

pub Contains-In : {X : Type 0} (xs : List X) (x : X) → In x xs → Contains xs x
Contains-In [] x h = absurd h
Contains-In (y ∷ ys) x (inl e) = (zero, omega arith, e)
Contains-In (y ∷ ys) x (inr h) = let r : Contains ys x = Contains-In ys x h in (suc r.0, omega arith, r.2)

pub In-map : {X Y : Type 0} (f : X → Y) (xs : List X) (x : X) → In x xs → In (f x) (map f xs)
In-map f [] x h = absurd h
In-map f (y ∷ ys) x (inl e) = inl (ap f e)
In-map f (y ∷ ys) x (inr h) = inr (In-map f ys x h)

-- what an element of `map f xs` comes from
pub from_map : {X Y : Type 0} (f : X → Y) (xs : List X) (y : Y) → In y (map f xs) → (x : X) × In x xs × (f x ≡ y)
from_map f [] y h = absurd h
from_map f (x ∷ xs) y (inl e) = (x, inl refl, e)
from_map {X} f (x ∷ xs) y (inr h) =
    let r : (z : X) × In z xs × (f z ≡ y) = from_map f xs y h in (r.0, inr r.1, r.2)

pub In-before : {X : Type 0} (xs ys : List X) (x : X) → In x xs → In x (xs ++ ys)
In-before [] ys x h = absurd h
In-before (y ∷ xs) ys x (inl e) = inl e
In-before (y ∷ xs) ys x (inr h) = inr (In-before xs ys x h)

pub In-after : {X : Type 0} (xs ys : List X) (x : X) → In x ys → In x (xs ++ ys)
In-after [] ys x h = h
In-after (y ∷ xs) ys x h = inr (In-after xs ys x h)

pub from_append : {X : Type 0} (xs ys : List X) (x : X) → In x (xs ++ ys) → In x xs ⊎ In x ys
from_append [] ys x h = inr h
from_append (y ∷ xs) ys x (inl e) = inl (inl e)
from_append (y ∷ xs) ys x (inr h) = elim (from_append xs ys x h) [ inl a ↦ inl (inr a) | inr b ↦ inr b ]

pub In-flat_map : {X A : Type 0} (f : X → List A) (xs : List X) (x : X) (a : A) → In x xs → In a (f x) → In a (flat_map f xs)
In-flat_map f [] x a h g = absurd h
In-flat_map {X} f (y ∷ ys) x a (inl e) g = In-before (f y) (flat_map f ys) a (let P : X → Type 0 = λ z. In a (f z) in subst P (sym e) g)
In-flat_map f (y ∷ ys) x a (inr h) g = In-after (f y) (flat_map f ys) a (In-flat_map f ys x a h g)

-- what an element of `flat_map f xs` comes from
pub from_flat_map : {X A : Type 0} (f : X → List A) (xs : List X) (a : A) → In a (flat_map f xs) → (x : X) × In x xs × In a (f x)
from_flat_map f [] a h = absurd h
from_flat_map {X} f (x ∷ xs) a h =
    elim (from_append (f x) (flat_map f xs) a h) [
      | inl here ↦ (x, inl refl, here)
      | inr there ↦ let r : (z : X) × In z xs × In a (f z) = from_flat_map f xs a there in (r.0, inr r.1, r.2)
    ]

pub In-filter : {X : Type 0} (p : X → Bool) (xs : List X) (x : X) → In x xs → p x ≡ true → In x (filter p xs)
In-filter p [] x h t = h
In-filter p (y ∷ ys) x (inl e) t =
    let passes : p y ≡ true = ap p e ∙ t in
    let P : Bool → Type 0 = λ b. In x (cond b (y ∷ filter p ys) (filter p ys)) in
    subst P (sym passes) (inl e)
In-filter p (y ∷ ys) x (inr h) t =
    let rest = In-filter p ys x h t in
    elim (p y) as (λ b. In x (cond b (y ∷ filter p ys) (filter p ys))) [ true ↦ inr rest | false ↦ rest ]

-- an element of `filter p xs` is one of xs, and passes
pub from_filter : {X : Type 0} (p : X → Bool) (xs : List X) (x : X) → In x (filter p xs) → In x xs × (p x ≡ true)
from_filter p [] x h = absurd h
from_filter {X} p (y ∷ ys) x h =
    elim (p y) as (λ b. p y ≡ b → In x (cond b (y ∷ filter p ys) (filter p ys)) → In x (y ∷ ys) × (p x ≡ true)) [
      | true ↦ λ t h. elim h [
        | inl e ↦ (inl e, ap p (sym e) ∙ t)
        | inr later ↦ let r : In x ys × (p x ≡ true) = from_filter p ys x later in (inr r.0, r.1)
      ]
      | false ↦ λ t h. let r : In x ys × (p x ≡ true) = from_filter p ys x h in (inr r.0, r.1)
    ] refl h

pub In-enumerate : {X : Type 0} (n : ℕ) (xs : List X) (i : ℕ) (x : X) → slice_get xs i ≡ Some x → In (n + i, x) (enumerate_from n xs)
In-enumerate n [] i x h = cc
In-enumerate n (y ∷ ys) zero x h = let same : y ≡ x = cc in inl (λ j. (sym (add-zero n) j, same j))
In-enumerate {X} n (y ∷ ys) (suc i) x h =
    let P : ℕ → Type 0 = λ k. In (k, x) (enumerate_from (n + 1) ys) in
    inr (subst P (omega arith) (In-enumerate (n + 1) ys i x h))

-- an element with its place stands at that place
pub from_enumerate : {X : Type 0} (n : ℕ) (xs : List X) (k : ℕ) (x : X) → In (k, x) (enumerate_from n xs) → (i : ℕ) × (k ≡ n + i) × (slice_get xs i ≡ Some x)
from_enumerate n [] k x h = absurd h
from_enumerate n (y ∷ ys) k x (inl e) = (zero, sym (ap (λ (p : ℕ × _). p.0) e) ∙ sym (add-zero n), ap (λ (p : ℕ × _). Some p.1) e)
from_enumerate {X} n (y ∷ ys) k x (inr h) =
    let r : (i : ℕ) × (k ≡ n + 1 + i) × (slice_get ys i ≡ Some x) = from_enumerate (n + 1) ys k x h in
    (suc r.0, omega arith, r.2)
