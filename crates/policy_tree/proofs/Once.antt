-- Lists that have each element once, and the distinct histories.
use Rattle.std.proofs.Common.{◌≡◌, refl, sym, ap, subst, ◌∙◌, ℤ, Bool, true, false, not, cond, List, [], ◌∷◌, ◌++◌, map, inl, inr, filter, Decides, true≢false}
use Rattle.std.specs.Cmp.{signed_Decides}
use Rattle.std.specs.Cmp.Lexicographic.{pointwise_decides}
use Rattle.sopl_ast.specs.Histories.{same_values, distinct}
use Rattle.policy_tree.proofs.Members.{In, In-filter, from_filter, from_map, from_append}

-- no element stands again after itself
abbrev pub Once : {X : Type 0} → List X → Type 0
Once [] = Unit {0}
Once (x ∷ xs) = (¬ In x xs) × Once xs

pub Once-filter : {X : Type 0} (p : X → Bool) (xs : List X) → Once xs → Once (filter p xs)
Once-filter p [] h = tt
Once-filter p (x ∷ xs) h =
    let rest = Once-filter p xs h.1 in
    elim (p x) as (λ b. Once (cond b (x ∷ filter p xs) (filter p xs))) [
      | true ↦ (λ again. h.0 (from_filter p xs x again).0, rest)
      | false ↦ rest
    ]

pub Once-map : {X Y : Type 0} (f : X → Y) (xs : List X) → ((x y : X) → f x ≡ f y → x ≡ y) → Once xs → Once (map f xs)
Once-map f [] apart h = tt
Once-map {X} f (x ∷ xs) apart h = (
  λ again.
      let r : (z : X) × In z xs × (f z ≡ f x) = from_map f xs (f x) again in
      let P : X → Type 0 = λ z. In z xs in
      h.0 (subst P (apart r.0 x r.2) r.1),
  Once-map f xs apart h.1,
)

pub Once-append : {X : Type 0} (xs ys : List X) → Once xs → Once ys → ((x : X) → In x xs → In x ys → ⊥) → Once (xs ++ ys)
Once-append [] ys a b apart = b
Once-append (x ∷ xs) ys a b apart = (
  λ again. elim (from_append xs ys x again) [ inl here ↦ a.0 here | inr there ↦ apart x (inl refl) there ],
  Once-append xs ys a.1 b (λ y here there. apart y (inr here) there),
)

pub same_is : (xs ys : List ℤ) → Decides (same_values xs ys) (xs ≡ ys)
same_is xs ys = pointwise_decides signed_Decides xs ys

pub In-distinct : (xss : List (List ℤ)) (x : List ℤ) → In x xss → In x (distinct xss)
In-distinct [] x h = h
In-distinct (y ∷ ys) x (inl e) = inl e
In-distinct (y ∷ ys) x (inr h) =
    elim (same_values y x) as (λ b. same_values y x ≡ b → In x (distinct (y ∷ ys))) [
      | true ↦ λ t. inl ((same_is y x).0 t)
      | false ↦ λ t. inr (In-filter (λ other. not (same_values y other)) (distinct ys) x (In-distinct ys x h) (ap not t))
    ] refl

pub from_distinct : (xss : List (List ℤ)) (x : List ℤ) → In x (distinct xss) → In x xss
from_distinct [] x h = h
from_distinct (y ∷ ys) x (inl e) = inl e
from_distinct (y ∷ ys) x (inr h) = inr (from_distinct ys x (from_filter (λ other. not (same_values y other)) (distinct ys) x h).0)

pub Once-distinct : (xss : List (List ℤ)) → Once (distinct xss)
Once-distinct [] = tt
Once-distinct (y ∷ ys) = (
  λ again.
      let passes : not (same_values y y) ≡ true = (from_filter (λ other. not (same_values y other)) (distinct ys) y again).1 in
      let same : same_values y y ≡ true = (same_is y y).1 refl in
      true≢false (sym passes ∙ ap not same),
  Once-filter (λ other. not (same_values y other)) (distinct ys) (Once-distinct ys),
)
