-- The test of a point is what it tests.
use Rattle.std.proofs.Common.{◌≡◌, refl, arith, ℤ, ◌*ℤ◌, ◌≤ℤ◌, int_le, Bool, true, ◌&&◌, List, All, Option, Some, None, IsSome, IfSome, IsTrue, is_some}
use Rattle.std.proofs.lemmas.Int.{ints}
use Rattle.std.specs.List.{list_all}
use Rattle.std.specs.Option.{option_map_or}
use Rattle.term_language.proofs.FormValues.{and_first, and_second}
use Rattle.term_language.specs.Terms.{Cond}
use Rattle.term_language.specs.Values.{value, holds}
use Rattle.term_problem.specs.Problems.{ChanceTerms, GoalTerms, ProblemTerms}
use Rattle.term_problem.specs.Points.{weight_where, Holds}
use Rattle.term_problem.specs.Search.{satisfies}
use Rattle.term_problem.specs.Laws.{PointsAreTold}
use Rattle.term_problem.proofs.Lists.{all_hold, all_pass}

module _ (terms : ProblemTerms) (point : List ℤ) where
  abbrev DoHold : List Cond → Type 0
  DoHold conditions = All (λ condition. IsTrue (holds point condition)) conditions

  abbrev WeighEnough : ChanceTerms → Type 0
  WeighEnough chance = (chance.p *ℤ terms.whole) ≤ℤ (chance.q *ℤ weight_where point terms.weights chance.conditions)

  abbrev AreDefined : GoalTerms → Type 0
  AreDefined goal = All (λ term. IsSome (value point term)) goal.terms

  abbrev weigh_enough : ChanceTerms → Bool
  weigh_enough chance = int_le (chance.p *ℤ terms.whole) (chance.q *ℤ weight_where point terms.weights chance.conditions)

  abbrev are_defined : GoalTerms → Bool
  are_defined goal = list_all (λ term. is_some (value point term)) goal.terms

  goal_to : (goal : Option GoalTerms) → option_map_or are_defined goal true ≡ true → IfSome goal AreDefined
  goal_to None passed = tt
  goal_to (Some goal) passed = all_hold (λ term. is_some (value point term)) (λ term. IsSome (value point term)) goal.terms (λ term there. there) passed

  goal_back : (goal : Option GoalTerms) → IfSome goal AreDefined → option_map_or are_defined goal true ≡ true
  goal_back None all = refl
  goal_back (Some goal) all = all_pass (λ term. is_some (value point term)) (λ term. IsSome (value point term)) goal.terms (λ term there. there) all

  at_most : (x y : ℤ) → int_le x y ≡ true → x ≤ℤ y
  at_most x y tested = grind (arith, ints)

  tested_at_most : (x y : ℤ) → x ≤ℤ y → int_le x y ≡ true
  tested_at_most x y less = grind (arith, ints)

  told : satisfies terms point ≡ true → Holds terms point
  told passed =
      let hards = list_all (list_all (holds point)) terms.hards in
      let chances = list_all weigh_enough terms.chances in
      let goal = option_map_or are_defined terms.goal true in
      let rest = and_second hards (chances && goal) passed in
      record {
        hards = all_hold (list_all (holds point)) DoHold terms.hards
            (λ conditions. all_hold (holds point) (λ condition. IsTrue (holds point condition)) conditions (λ condition true_there. true_there)) (and_first hards (chances && goal) passed);
        chances = all_hold weigh_enough WeighEnough terms.chances (λ chance. at_most (chance.p *ℤ terms.whole) (chance.q *ℤ weight_where point terms.weights chance.conditions))
            (and_first chances goal rest);
        goal = goal_to terms.goal (and_second chances goal rest);
      }

  all_three : (a b c : Bool) → a ≡ true → b ≡ true → c ≡ true → (a && (b && c)) ≡ true
  all_three a b c first second third = cc

  told_back : Holds terms point → satisfies terms point ≡ true
  told_back all =
      all_three (list_all (list_all (holds point)) terms.hards) (list_all weigh_enough terms.chances) (option_map_or are_defined terms.goal true)
      (all_pass (list_all (holds point)) DoHold terms.hards (λ conditions.
      all_pass (holds point) (λ condition. IsTrue (holds point condition)) conditions (λ condition true_there. true_there)) all.hards)
      (all_pass weigh_enough WeighEnough terms.chances (λ chance. tested_at_most (chance.p *ℤ terms.whole) (chance.q *ℤ weight_where point terms.weights chance.conditions)) all.chances)
      (goal_back terms.goal all.goal)

pub points_are_told : PointsAreTold
points_are_told terms point = (told terms point, told_back terms point)
