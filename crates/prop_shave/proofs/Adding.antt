-- Sums over several parts.
use Rattle.std.proofs.Common.{◌≡◌, ℕ, ◌+◌, ◌<◌, ◌≤◌, ℤ, ◌+ℤ◌, ◌-ℤ◌, Bool, false, List, [], ◌∷◌, length, get_or, drop, if◌then◌else◌, arith, refl}
use Rattle.std.specs.List.{filter}
use Rattle.std.proofs.lemmas.Int.{ints}
use Rattle.std.proofs.lemmas.List.{at_drop_all, at_drop_more}
use Rattle.term_language.proofs.FormValues.{by_bool}
use Rattle.prop_shave.specs.Sums.{sum_over, turn_of}

-- one of several parts turned, and none left
pub turn_more : {A : Type 0} (f g : A → ℤ) (list : List A) (i : ℕ) (d : A) (start old new before after : ℤ) → i < length list → (old +ℤ sum_over (turn_of f g) (drop i list)) ≡ start
    → before ≡ f (get_or list i d) → after ≡ g (get_or list i d) → new ≡ ((old +ℤ after) -ℤ before) → (new +ℤ sum_over (turn_of f g) (drop (i + 1) list)) ≡ start
turn_more f g list i d start old new before after below so_far was is put =
    let more = at_drop_more (λ xs. sum_over (turn_of f g) xs) list i d below in
    omega (arith, ints, more, so_far, was, is, put)

pub turn_all : {A : Type 0} (f g : A → ℤ) (list : List A) (i : ℕ) (start now : ℤ) → length list ≤ i → (now +ℤ sum_over (turn_of f g) (drop i list)) ≡ start → now ≡ start
turn_all f g list i start now past so_far =
    let none = at_drop_all (λ xs. sum_over (turn_of f g) xs) list i past in
    omega (arith, ints, none, so_far)

-- a sum that differs in some parts alone
pub differs_there : {A : Type 0} (f g : A → ℤ) (test : A → Bool) (list : List A) → ((x : A) → test x ≡ false → g x ≡ f x) → sum_over g list
    ≡ (sum_over f list +ℤ sum_over (turn_of f g) (filter test list))
differs_there f g test [] same = omega (arith, ints)
differs_there f g test (x ∷ list) same =
    let rest = differs_there f g test list same in
    by_bool (λ t. test x ≡ t → (g x +ℤ sum_over g list) ≡ ((f x +ℤ sum_over f list) +ℤ sum_over (turn_of f g) (if t then x ∷ filter test list else filter test list))) (test x)
    (λ met is. omega (arith, ints, rest))
    (λ unmet is. let here = same x is in omega (arith, ints, rest, here)) refl
