-- What an objective is worth by its values in all scenarios.
use Rattle.std.proofs.Common.{arith, ◌≡◌, refl, sym, ap, ◌∙◌, ℤ, ◌+ℤ◌, ◌*ℤ◌, List, [], ◌∷◌, ◌<◌, length, map, Option, Some, None}
use Rattle.std.proofs.lemmas.Int.{ints, clamps}
use Rattle.std.proofs.lemmas.Option.{none-some, same_Some}
use Rattle.std.specs.Int.{int_min, int_max}
use Rattle.std.specs.List.{fold}
use Rattle.sopl_base.specs.declared.direction.Direction.{Direction}
use Rattle.sopl_base.specs.declared.direction.Direction.TheVariants.{Minimize, Maximize, Nothing}
use Rattle.sopl_ast.specs.Numbers.{all_of, both_of, extreme}
use Rattle.sopl_ast.specs.Optimal.{expected, worse, worst}
use Rattle.sopl_ast.specs.Scenarios.{Scenario}
use Rattle.policy_eval.specs.Tried.{weighted}
use Rattle.policy_eval.specs.Valued.{first_of, worst_in, worst_of}

abbrev weight : Scenario → ℤ
weight s = s.weight

-- values of which all are there
record AreThere {A : Type 0} (value : A → Option ℤ) (z : A) (zs : List A) (xs : List ℤ) : Type 0 where
  first : ℤ
  later : List ℤ
  is : value z ≡ Some first
  are : all_of value zs ≡ Some later
  whole : xs ≡ first ∷ later

are_there : {A : Type 0} (value : A → Option ℤ) (z : A) (zs : List A) (xs : List ℤ) → all_of value (z ∷ zs) ≡ Some xs → AreThere value z zs xs
are_there value z zs xs all = by_options (value z) refl (all_of value zs) refl all
  where
    by_options : (a : Option ℤ) → value z ≡ a → (b : Option (List ℤ)) → all_of value zs ≡ b → both_of (λ y ys. y ∷ ys) a b ≡ Some xs → AreThere value z zs xs
    by_options None p b q h = absurd (none-some xs h)
    by_options (Some y) p None q h = absurd (none-some xs h)
    by_options (Some y) p (Some ys) q h = record { first = y; later = ys; is = p; are = q; whole = sym (same_Some (y ∷ ys) xs h) }

-- the expected value
pub expected_is : (value : Scenario → Option ℤ) (zs : List Scenario) (xs : List ℤ) → all_of value zs ≡ Some xs → expected value zs ≡ Some (weighted (map weight zs) xs)
expected_is value [] xs all = ap (λ ys. Some (weighted [] ys)) (same_Some [] xs all)
expected_is value (z ∷ zs) xs all =
    let a : AreThere value z zs xs = are_there value z zs xs all in
    (λ i. both_of (λ x y. (z.weight *ℤ x) +ℤ y) (a.is i) (expected_is value zs a.later a.are i)) ∙ ap (λ ys. Some (weighted (map weight (z ∷ zs)) ys)) (sym a.whole)

-- the worst value
module _ (choose : ℤ → ℤ → ℤ) (associates : (x y z : ℤ) → choose (choose x y) z ≡ choose x (choose y z)) where
  folded : (x y : ℤ) (zs : List ℤ) → fold choose (choose x y) zs ≡ choose x (fold choose y zs)
  folded x y [] = refl
  folded x y (z ∷ zs) = ap (λ w. fold choose w zs) (associates x y z) ∙ folded x (choose y z) zs

  pub worst_is : (value : Scenario → Option ℤ) (zs : List Scenario) (xs : List ℤ) → all_of value zs ≡ Some xs → worst choose value zs ≡ extreme choose xs
  worst_is value [] xs all = ap (extreme choose) (same_Some [] xs all)
  worst_is value (z ∷ []) xs all =
      let a : AreThere value z [] xs = are_there value z [] xs all in
      a.is ∙ ap (λ ys. Some (fold choose a.first ys)) (same_Some [] a.later a.are) ∙ ap (extreme choose) (sym a.whole)
  worst_is value (z ∷ y ∷ zs) xs all =
      let a : AreThere value z (y ∷ zs) xs = are_there value z (y ∷ zs) xs all in
      let b : AreThere value y zs a.later = are_there value y zs a.later a.are in
      (λ i. both_of choose (a.is i) (worst_is value (y ∷ zs) a.later a.are i))
      ∙ ap (λ ys. both_of choose (Some a.first) (extreme choose ys)) b.whole
      ∙ ap Some (sym (folded a.first b.first b.later))
      ∙ ap (λ ys. extreme choose (a.first ∷ ys)) (sym b.whole)
      ∙ ap (extreme choose) (sym a.whole)

max_associates : (x y z : ℤ) → int_max (int_max x y) z ≡ int_max x (int_max y z)
max_associates x y z = omega (arith, ints, clamps)

min_associates : (x y z : ℤ) → int_min (int_min x y) z ≡ int_min x (int_min y z)
min_associates x y z = omega (arith, ints, clamps)

firsts : (x : ℤ) (xs : List ℤ) → fold (λ a b. a) x xs ≡ x
firsts x [] = refl
firsts x (y ∷ xs) = firsts x xs

first_extreme : (xs : List ℤ) → extreme (λ a b. a) xs ≡ first_of xs
first_extreme [] = refl
first_extreme (x ∷ xs) = ap Some (firsts x xs)

pub worst_found : (direction : Direction) (value : Scenario → Option ℤ) (zs : List Scenario) (xs : List ℤ) → all_of value zs ≡ Some xs → worst (worse direction) value zs ≡ worst_in direction xs
worst_found Minimize value zs xs all = worst_is (worse Minimize) max_associates value zs xs all
worst_found Maximize value zs xs all = worst_is (worse Maximize) min_associates value zs xs all
worst_found Nothing value zs xs all = worst_is (worse Nothing) (λ x y z. refl) value zs xs all ∙ first_extreme xs

-- of at least one value one is the worst
pub worst_there : (direction : Direction) (xs : List ℤ) → 0 < length xs → worst_in direction xs ≡ Some (worst_of direction xs)
worst_there Minimize [] some = absurd (omega (arith, some))
worst_there Minimize (x ∷ xs) some = refl
worst_there Maximize [] some = absurd (omega (arith, some))
worst_there Maximize (x ∷ xs) some = refl
worst_there Nothing [] some = absurd (omega (arith, some))
worst_there Nothing (x ∷ xs) some = refl

-- as many values as scenarios
pub as_many : {A : Type 0} (value : A → Option ℤ) (zs : List A) (xs : List ℤ) → all_of value zs ≡ Some xs → length xs ≡ length zs
as_many value [] xs all = ap length (sym (same_Some [] xs all))
as_many value (z ∷ zs) xs all = let a = are_there value z zs xs all in ap length a.whole ∙ omega (arith, as_many value zs a.later a.are)
