-- Elements of a list by their places, and what a list has.
use Rattle.std.proofs.Common.{◌≡◌, refl, sym, ap, subst, ◌∙◌, arith, ℕ, zero, suc, ◌<◌, Bool, true, false, ◌&&◌, List, [], ◌∷◌, map, All, Contains, Option, Some, None, IfSome}
use Rattle.std.proofs.Common.{option_and_then, slice_get, get_or}
use Rattle.std.proofs.lemmas.List.Elements.{Contains-append_left, Contains-append_right}
use Rattle.std.proofs.lemmas.List.FromFn.{length-range_with_len, get_or-range_with_len}
use Rattle.std.proofs.lemmas.Option.{slice_get-get_or, slice_get_within, get_or_from_slice_get, same_Some}
use Rattle.std.specs.List.{list_all, flat_map, range_with_len}
use Rattle.std.specs.Option.{option_map_or}

-- what is there, where nothing else may be
pub at_some : {A : Type 0} (P : A → Type 0) (o : Option A) (x : A) → IfSome o P → o ≡ Some x → P x
at_some P None x all is = absurd (cc)
at_some P (Some y) x all is = subst P (same_Some y x is) all

pub to_some : {A : Type 0} (P : A → Type 0) (o : Option A) → ((x : A) → o ≡ Some x → P x) → IfSome o P
to_some P None each = tt
to_some P (Some x) each = each x refl

-- what two look-ups give
pub record Chain {A B : Type 0} (o : Option A) (f : A → Option B) (y : B) : Type 0 where
  pub first : A
  pub is_first : o ≡ Some first
  pub is_second : f first ≡ Some y

pub chained : {A B : Type 0} (o : Option A) (f : A → Option B) (y : B) → option_and_then f o ≡ Some y → Chain o f y
chained None f y is = absurd (cc)
chained (Some x) f y is = record { first = x; is_first = refl; is_second = is }

-- a test of what may be there fails
pub fails : {A : Type 0} (test : A → Bool) (o : Option A) → ((x : A) → o ≡ Some x → test x ≡ false) → option_map_or test o false ≡ false
fails test None each = refl
fails test (Some x) each = each x refl

pub all_at : {A : Type 0} (P : A → Type 0) (xs : List A) → All P xs → (k : ℕ) (x : A) → slice_get xs k ≡ Some x → P x
all_at P xs all k x at = subst P (get_or_from_slice_get xs k x x at) (all k x (slice_get_within xs k x at))

pub all_from : {A : Type 0} (P : A → Type 0) (xs : List A) → ((k : ℕ) (x : A) → slice_get xs k ≡ Some x → P x) → All P xs
all_from P xs each k d below = each k (get_or xs k d) (slice_get-get_or xs k d below)

-- a test of all elements
pub all_hold : {A : Type 0} (test : A → Bool) (P : A → Type 0) (xs : List A) → ((x : A) → test x ≡ true → P x) → list_all test xs ≡ true → All P xs
all_hold test P [] goes passed k d below = absurd (omega (arith, below))
all_hold test P (x ∷ xs) goes passed zero d below = goes x (first (test x) (list_all test xs) passed)
  where
    first : (a b : Bool) → (a && b) ≡ true → a ≡ true
    first true b both = refl
    first false b both = both
all_hold test P (x ∷ xs) goes passed (suc k) d below = all_hold test P xs goes (second (test x) (list_all test xs) passed) k d (omega (arith, below))
  where
    second : (a b : Bool) → (a && b) ≡ true → b ≡ true
    second true b both = both
    second false b both = cc

pub all_pass : {A : Type 0} (test : A → Bool) (P : A → Type 0) (xs : List A) → ((x : A) → P x → test x ≡ true) → All P xs → list_all test xs ≡ true
all_pass test P [] goes all = refl
all_pass test P (x ∷ xs) goes all =
    ap (λ b. b && list_all test xs) (goes x (all zero x (omega arith)))
    ∙ all_pass test P xs goes (λ k d below. all (suc k) d (omega (arith, below)))

-- elements of a list that is made
pub contains_map : {A B : Type 0} (f : A → B) (xs : List A) (x : A) → Contains xs x → Contains (map f xs) (f x)
contains_map f [] x (k, within, is) = absurd (omega (arith, within))
contains_map f (y ∷ ys) x (zero, within, is) = (zero, omega arith, ap f is)
contains_map f (y ∷ ys) x (suc k, within, is) =
    let r : Contains (map f ys) (f x) = contains_map f ys x (k, omega (arith, within), is) in (suc r.0, omega (arith, r.1), r.2)

pub contains_flat_map : {A B : Type 0} (f : A → List B) (xs : List A) (x : A) (y : B) → Contains xs x → Contains (f x) y → Contains (flat_map f xs) y
contains_flat_map f [] x y (k, within, is) h = absurd (omega (arith, within))
contains_flat_map {A} f (z ∷ zs) x y (zero, within, is) h =
    Contains-append_left (f z) (flat_map f zs) y (let P : A → Type 0 = λ a. Contains (f a) y in subst P (sym is) h)
contains_flat_map f (z ∷ zs) x y (suc k, within, is) h =
    Contains-append_right (f z) (flat_map f zs) y (contains_flat_map f zs x y (k, omega (arith, within), is) h)

pub contains_number : (n k : ℕ) → k < n → Contains (range_with_len 0 n) k
contains_number n k below = (k, omega (arith, below, length-range_with_len 0 n), get_or-range_with_len 0 n k k below ∙ omega arith)
