-- Lists: what holds of each element, and elements at places.
use Rattle.sopl_base.proofs.Tests.{positive_tested, positive_test}
use Rattle.std.proofs.Common.{List, Any, ◌∷◌, zero, arith, refl, suc, ℕ, ◌<◌, length, ◌≡◌, get_or, map, drop, ◌+◌, ap, slice_get, Some, [], ◌∙◌, sym, Contains, ℤ, pos, ◌≤ℤ◌, subst, unwrap_or, ◌++◌, Bool, true, filter, cond, false, ◌≤◌}
use Rattle.std.proofs.Math.Bool.{Bool-set}
use Rattle.std.proofs.Math.Logic.{∥∥₁_elim, ∥∥₁_map}
use Rattle.std.proofs.lemmas.Grind.{flat_map-append}
use Rattle.std.proofs.lemmas.List.{map-id, at_drop_more, at_drop_all, map-append}
use Rattle.std.proofs.lemmas.List.Elements.{All-nil}
use Rattle.std.proofs.lemmas.List.FromFn.{map-range_with_len_more}
use Rattle.std.proofs.lemmas.Option.{same_Some}
use Rattle.std.proofs.lemmas.Slice.Eq.{bytes_eq-Decides}
use Rattle.std.specs.List.{range_with_len, AllByRecursion, All, flat_map}
use Rattle.std.specs.Str.{bytes_eq}

pub bytes_same : (bs : List ℕ) → bytes_eq bs bs ≡ true
bytes_same bs = (bytes_eq-Decides bs bs).1 refl

pub any_here : {X : Type 0} (P : X → Type 0) (x : X) (xs : List X) → P x → Any P (x ∷ xs)
any_here P x xs here = (zero, x, omega arith, refl, here)

pub any_later : {X : Type 0} (P : X → Type 0) (x : X) (xs : List X) → Any P xs → Any P (x ∷ xs)
any_later P x xs later = (suc later.0, later.1, omega (arith, later.2), later.3, later.4)

pub by_elements : {A : Type 0} (f : ℕ → A) (first : ℕ) (xs : List A) → ((j : ℕ) → j < length xs → slice_get xs j ≡ Some (f (first + j))) → map f (range_with_len first (length xs)) ≡ xs
by_elements f first [] each = refl
by_elements {A} f first (x ∷ xs) each =
    let here : f first ≡ x = ap f (omega arith) ∙ sym (ap (λ o. unwrap_or o x) (each 0 (omega arith))) in
    let later : (j : ℕ) → j < length xs → slice_get xs j ≡ Some (f ((first + 1) + j)) =
    λ j below. each (suc j) (omega (arith, below)) ∙ ap (λ k. Some (f k)) (omega arith) in
    λ i. here i ∷ by_elements f (first + 1) xs later i

pub contains_later : {X : Type 0} (x : X) (xs : List X) (y : X) → Contains xs y → Contains (x ∷ xs) y
contains_later x xs y has = (suc has.0, omega (arith, has.1), has.2)

pub positive_there : (ws : List ℤ) → ∥ AllByRecursion (λ w. pos 1 ≤ℤ w) ws ∥₁ → AllByRecursion (λ w. pos 1 ≤ℤ w) ws
positive_there [] held = tt
positive_there (w ∷ ws) held = (positive_tested w (∥∥₁_elim held (Bool-set _ _) (λ h. positive_test w h.0)), positive_there ws (∥∥₁_map held (λ h. h.1)))

pub each_of : {A : Type 0} (P : A → Type 0) (xs : List A) (i : ℕ) (d : A) → AllByRecursion P xs → i < length xs → P (get_or xs i d)
each_of P [] i d all below = absurd (omega (arith, below))
each_of P (x ∷ xs) zero d all below = all.0
each_of P (x ∷ xs) (suc i) d all below = each_of P xs i d all.1 (omega (arith, below))

pub all_at : {A : Type 0} (P : A → Type 0) (xs : List A) (i : ℕ) (x : A) → AllByRecursion P xs → slice_get xs i ≡ Some x → P x
all_at P [] i x all is = cc
all_at P (y ∷ ys) zero x all is = subst P (ap (λ o. unwrap_or o y) is) all.0
all_at P (y ∷ ys) (suc i) x all is = all_at P ys i x all.1 is

pub all_none : {X : Type 0} (P : X → Type 0) → All P []
all_none P = All-nil P

pub range_more : (n : ℕ) → range_with_len 0 (n + 1) ≡ range_with_len 0 n ++ n ∷ []
range_more n =
    sym (map-id (range_with_len 0 (n + 1)))
    ∙ (map-range_with_len_more (λ k. k) 0 n n (omega arith) ∙ ap (λ list. list ++ n ∷ []) (map-id (range_with_len 0 n)))

pub contains_one : (x cell : ℕ) → Contains (x ∷ []) cell → x ≡ cell
contains_one x cell here =
    let first : here.0 ≡ 0 = omega (arith, here.1) in
    sym (ap (λ n. get_or (x ∷ []) n cell) first) ∙ here.2

pub get_before : {X : Type 0} (xs ys : List X) (i : ℕ) (x : X) → slice_get xs i ≡ Some x → slice_get (xs ++ ys) i ≡ Some x
get_before [] ys i x at = cc
get_before (y ∷ xs) ys zero x at = at
get_before (y ∷ xs) ys (suc i) x at = get_before xs ys i x at

pub get_behind : {X : Type 0} (xs ys : List X) (i : ℕ) → slice_get (xs ++ ys) (length xs + i) ≡ slice_get ys i
get_behind [] ys i = let same : 0 + i ≡ i = omega arith in ap (slice_get ys) same
get_behind (y ∷ xs) ys i = let same : suc (length xs) + i ≡ suc (length xs + i) = omega arith in ap (slice_get (y ∷ (xs ++ ys))) same ∙ get_behind xs ys i

pub filter_keeps : (p : ℕ → Bool) (a : ℕ) (rest : List ℕ) → p a ≡ true → length (filter p (a ∷ rest)) ≡ suc (length (filter p rest))
filter_keeps p a rest is = λ i. length (cond (is i) (a ∷ filter p rest) (filter p rest))

pub filter_drops : (p : ℕ → Bool) (a : ℕ) (rest : List ℕ) → p a ≡ false → length (filter p (a ∷ rest)) ≡ length (filter p rest)
filter_drops p a rest is = λ i. length (cond (is i) (a ∷ filter p rest) (filter p rest))

pub drop_next : {A : Type 0} (xs : List A) (i : ℕ) (x : A) → i < length xs → x ≡ get_or xs i x → drop i xs ≡ x ∷ drop (i + 1) xs
drop_next xs i x within is = at_drop_more (λ list. list) xs i x within ∙ ap (λ y. y ∷ drop (i + 1) xs) (sym is)

pub mapped_next : {A B : Type 0} (see : A → B) (xs : List A) (i : ℕ) (x : A) → i < length xs → x ≡ get_or xs i x → map see (drop i xs) ≡ see x ∷ map see (drop (i + 1) xs)
mapped_next see xs i x below at = ap (map see) (drop_next xs i x below at)

pub nothing_behind : {B : Type 0} (done : List B) → done ++ [] ≡ done
nothing_behind [] = refl
nothing_behind (x ∷ done) = ap (λ ys. x ∷ ys) (nothing_behind done)

pub all_copied : {A B C : Type 0} (f : A → B) (g : C → B) (xs : List A) (i : ℕ) (list : List C) → length xs ≤ i → map g list ++ map f (drop i xs) ≡ map f xs → map g list ≡ map f xs
all_copied f g xs i list past so_far =
    sym (nothing_behind (map g list)) ∙ sym (ap (λ ys. map g list ++ ys) (at_drop_all (map f) xs i past)) ∙ so_far

pub each_at : {A : Type 0} (P : A → Type 0) (xs : List A) → AllByRecursion P xs → (k : ℕ) (x : A) → slice_get xs k ≡ Some x → P x
each_at P [] all k x at = absurd (cc)
each_at P (y ∷ ys) all zero x at = subst P (same_Some y x at) all.0
each_at P (y ∷ ys) all (suc k) x at = each_at P ys all.1 k x at

pub flat_map-flat_map : {A B C : Type 0} (f : B → List C) (g : A → List B) (xs : List A) → flat_map f (flat_map g xs) ≡ flat_map (λ x. flat_map f (g x)) xs
flat_map-flat_map f g [] = refl
flat_map-flat_map f g (x ∷ xs) = flat_map-append f (g x) (flat_map g xs) ∙ ap (λ rest. flat_map f (g x) ++ rest) (flat_map-flat_map f g xs)

pub map-flat_map : {A B C : Type 0} (f : B → C) (g : A → List B) (xs : List A) → map f (flat_map g xs) ≡ flat_map (λ x. map f (g x)) xs
map-flat_map f g [] = refl
map-flat_map f g (x ∷ xs) = map-append f (g x) (flat_map g xs) ∙ ap (λ rest. map f (g x) ++ rest) (map-flat_map f g xs)

pub map-map : {A B C : Type 0} (f : B → C) (g : A → B) (xs : List A) → map f (map g xs) ≡ map (λ x. f (g x)) xs
map-map f g [] = refl
map-map f g (x ∷ xs) = ap (λ rest. f (g x) ∷ rest) (map-map f g xs)

pub map_same : {A B : Type 0} (f g : A → B) → ((x : A) → f x ≡ g x) → (xs : List A) → map f xs ≡ map g xs
map_same f g same xs = ap (λ h. map h xs) (λ i x. same x i)

pub all_append : {A : Type 0} (P : A → Type 0) (xs ys : List A) → AllByRecursion P xs → AllByRecursion P ys → AllByRecursion P (xs ++ ys)
all_append P [] ys p q = q
all_append P (x ∷ xs) ys p q = (p.0, all_append P xs ys p.1 q)

pub all_joined : {A B : Type 0} (P : B → Type 0) (f : A → List B) (xs : List A) → AllByRecursion (λ x. AllByRecursion P (f x)) xs → AllByRecursion P (flat_map f xs)
all_joined P f [] all = tt
all_joined P f (x ∷ xs) all = all_append P (f x) (flat_map f xs) all.0 (all_joined P f xs all.1)

pub all_filter : {A : Type 0} (P : A → Type 0) (p : A → Bool) (xs : List A) → AllByRecursion P xs → AllByRecursion P (filter p xs)
all_filter P p [] all = tt
all_filter P p (x ∷ xs) all = on (p x) (all_filter P p xs all.1)
  where
    on : (b : Bool) → AllByRecursion P (filter p xs) → AllByRecursion P (cond b (x ∷ filter p xs) (filter p xs))
    on true more = (all.0, more)
    on false more = more
