-- The weight of the scenarios in which a condition holds, and of those in which it is not False.
use Rattle.std.proofs.Common.{◌≡◌, refl, arith, ℤ, pos, ◌+ℤ◌, ◌≤ℤ◌, Bool, true, false, if◌then◌else◌, List, [], ◌∷◌}
use Rattle.std.proofs.lemmas.Int.{ints}
use Rattle.std.specs.List.{AllByRecursion}
use Rattle.box_problem.specs.Box.{Box, IsBox, InBox, IsPoint}
use Rattle.term_language.specs.declared.answers.Truth.{Truth}
use Rattle.term_language.specs.declared.answers.Truth.TheVariants.{False, Unknown, True}
use Rattle.term_language.specs.Laws.{Tells, IsKnown, IsProperCond}
use Rattle.term_language.specs.Rules.{Near, truth}
use Rattle.term_language.specs.Terms.{Cond}
use Rattle.term_language.specs.Values.{holds}
use Rattle.term_language.proofs.OnPoints.{points_known}
use Rattle.term_language.proofs.Soundness.{truths_tell}
use Rattle.term_problem.specs.Points.{weight_where}
use Rattle.term_problem.specs.Refuted.{is_false, weight_left}

-- what holds is not False
pub never_false : (t : Truth) (h : Bool) → Tells t h → h ≡ true → is_false t ≡ false
never_false False true tells is = absurd tells
never_false False false tells is = absurd (cc)
never_false Unknown h tells is = refl
never_false True h tells is = refl

-- what is known and not False holds
pub known_holds : (t : Truth) (h : Bool) → IsKnown t → Tells t h → is_false t ≡ false → h ≡ true
known_holds False h known tells is = absurd (cc)
known_holds Unknown h known tells is = absurd known
known_holds True true known tells is = refl
known_holds True false known tells is = absurd tells

-- one scenario more
more_left : (t : Truth) (h : Bool) (w x y : ℤ) → Tells t h → pos 1 ≤ℤ w → x ≤ℤ y → (if h then w +ℤ x else x) ≤ℤ (if is_false t then y else w +ℤ y)
more_left False true w x y tells weighs less = absurd tells
more_left False false w x y tells weighs less = less
more_left Unknown true w x y tells weighs less = omega (arith, ints, less)
more_left Unknown false w x y tells weighs less = omega (arith, ints, less, weighs)
more_left True true w x y tells weighs less = omega (arith, ints, less)
more_left True false w x y tells weighs less = absurd tells

same_left : (t : Truth) (h : Bool) (w x y : ℤ) → IsKnown t → Tells t h → y ≤ℤ x → (if is_false t then y else w +ℤ y) ≤ℤ (if h then w +ℤ x else x)
same_left False true w x y known tells less = absurd tells
same_left False false w x y known tells less = less
same_left Unknown h w x y known tells less = absurd known
same_left True true w x y known tells less = omega (arith, ints, less)
same_left True false w x y known tells less = absurd tells

module _ (root b : Box) (point : List ℤ) (is_box : IsBox b) (inside : InBox b point) where
  -- no more scenarios make it true than may
  pub where_or_left : (weights : List ℤ) (conditions : List Cond) → AllByRecursion (λ weight. pos 1 ≤ℤ weight) weights → AllByRecursion IsProperCond conditions
      → weight_where point weights conditions ≤ℤ weight_left root b weights conditions
  where_or_left [] conditions weigh proper = omega (arith, ints)
  where_or_left (weight ∷ weights) [] weigh proper = omega (arith, ints)
  where_or_left (weight ∷ weights) (condition ∷ later) weigh proper =
      more_left (truth Near root b condition) (holds point condition) weight (weight_where point weights later) (weight_left root b weights later)
      (truths_tell Near root b point condition is_box inside proper.0) weigh.0 (where_or_left weights later weigh.1 proper.1)

  -- at one point those are all
  pub left_at_point : IsPoint b → (weights : List ℤ) (conditions : List Cond) → AllByRecursion IsProperCond conditions → weight_left root b weights conditions ≤ℤ weight_where point weights conditions
  left_at_point one [] conditions proper = omega (arith, ints)
  left_at_point one (weight ∷ weights) [] proper = omega (arith, ints)
  left_at_point one (weight ∷ weights) (condition ∷ later) proper =
      same_left (truth Near root b condition) (holds point condition) weight (weight_where point weights later) (weight_left root b weights later)
      (points_known root b condition is_box one proper.0) (truths_tell Near root b point condition is_box inside proper.0) (left_at_point one weights later proper.1)
