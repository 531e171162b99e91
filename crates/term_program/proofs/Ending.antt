-- Whether the better end of an interval is better than a value.
use Rattle.std.proofs.Common.{◌≡◌, ◌∙◌, ◌↔◌, ℤ, ◌<ℤ◌, int_le, Bool, true, false, not, IsTrue, Option, Some, arith, refl, ap, sym}
use Rattle.std.proofs.lemmas.Int.{ints}
use Rattle.sopl_base.specs.Better.{IsBetter}
use Rattle.sopl_base.specs.declared.direction.Direction.{Direction}
use Rattle.sopl_base.specs.declared.direction.Direction.TheVariants.{Minimize, Maximize, Nothing}
use Rattle.sopl_base.specs.declared.reason.Reason.TheVariants.{Bound}
use Rattle.box_problem.specs.Box.{Box}
use Rattle.term_language.specs.Ends.{Ends}
use Rattle.term_language.proofs.FormValues.{by_bool}
use Rattle.term_problem.specs.Objective.{better_end, goal_ends}
use Rattle.term_problem.specs.Problems.{ProblemTerms, direction_in}
use Rattle.term_problem.specs.Refuted.{none_better, refutes}
use Rattle.term_program.specs.Programs.{no_better}

-- what is not less
unless_less : (a b : ℤ) (r : Bool) → (IsTrue r ↔ (a <ℤ b)) → not r ≡ int_le b a
unless_less a b true tells = let below = tells.0 refl in grind (arith, ints)
unless_less a b false tells =
    by_bool (λ t. int_le b a ≡ t → true ≡ int_le b a) (int_le b a) (λ met is. sym is)
    (λ unmet is. let below : a <ℤ b = grind (arith, ints, is) in absurd (no (tells.1 below))) refl
  where
    no : ¬ (IsTrue false)
    no e = cc

-- what is not better is no better
pub not_better : (direction : Direction) (end v : ℤ) (r : Bool) → (IsTrue r ↔ IsBetter direction end v) → not r ≡ no_better direction end v
not_better Minimize end v r tells = unless_less end v r tells
not_better Maximize end v r tells = unless_less v end r tells
not_better Nothing end v true tells = absurd (tells.0 refl)
not_better Nothing end v false tells = refl

-- and the better end tells whether the bound closes a box
no_better_is : (direction : Direction) (a : Ends) (v : ℤ) → none_better direction a v ≡ no_better direction (better_end direction a) v
no_better_is Minimize a v = refl
no_better_is Maximize a v = refl
no_better_is Nothing a v = refl

pub closes_by : (root b : Box) (terms : ProblemTerms) (end v : ℤ) (closed : Bool) → end ≡ better_end (direction_in terms) (goal_ends root b terms) → closed ≡ no_better (direction_in terms) end v
    → closed ≡ refutes root terms Bound b (Some v)
closes_by root b terms end v closed is told =
    told
    ∙ ap (λ (z : ℤ). no_better (direction_in terms) z v) is
    ∙ sym (no_better_is (direction_in terms) (goal_ends root b terms) v)

pub bound_closes : (root b : Box) (terms : ProblemTerms) (best : Option ℤ) (direction : Direction) (end v : ℤ) (closed : Bool) → best ≡ Some v → direction ≡ direction_in terms
    → end ≡ better_end (direction_in terms) (goal_ends root b terms) → closed ≡ no_better direction end v → closed ≡ refutes root terms Bound b best
bound_closes root b terms best direction end v closed there same is told =
    closes_by root b terms end v closed is (told ∙ ap (λ (d : Direction). no_better d end v) same)
    ∙ sym (ap (λ (o : Option ℤ). refutes root terms Bound b o) there)
