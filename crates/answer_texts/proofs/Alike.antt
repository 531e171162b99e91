-- Two searches of one text that were done answer alike.
use Rattle.std.proofs.Common.{◌≡◌, ◌∙◌, ℤ, pos, List, ℕ, length, Option, Some, None, IfSome, option_map, refl, sym, ap, subst, arith}
use Rattle.std.proofs.lemmas.Option.{same_Some}
use Rattle.std.specs.Option.{option_map_or}
use Rattle.std.proofs.lemmas.Int.{ints, by_lt_z}
use Rattle.sopl_base.specs.Better.{IsBetter}
use Rattle.sopl_base.specs.declared.direction.Direction.{Direction}
use Rattle.sopl_base.specs.declared.direction.Direction.TheVariants.{Minimize, Maximize, Nothing}
use Rattle.sopl_ast.specs.Instances.{Objective, Problem}
use Rattle.sopl_ast.specs.Optimal.{IsInfeasible, IsOptimal, direction_of, numerator, objective_value}
use Rattle.sopl_ast.specs.Policies.{Policy}
use Rattle.sopl_ast.specs.Unfolding.{problem_of}
use Rattle.scen_accept.proofs.NamesFormed.{model_from_tokens}
use Rattle.term_problem.specs.Problems.{GoalTerms}
use Rattle.compile_laws.specs.Whole.{goal_terms, problem_terms}
use Rattle.compile_laws.proofs.WellMade.{problems_are_well_made}
use Rattle.answer_lines.specs.AnswerData.{line_of, optimal_data}
use Rattle.answer_texts.specs.Laws.{AnswerAlike, one_value, none_satisfies, SettledAnswerAlike}
use Rattle.answer_texts.specs.Replies.{IsTextReply, optimal, infeasible}
use Rattle.answer_texts.specs.Solved.{SolvedText}
use Rattle.answer_texts.proofs.Ended.{accepted_end_once}
use Rattle.answer_texts.specs.declared.command.Detail.TheVariants.{Full}

-- of two values none of which is better
one_best : (direction : Direction) (v w : ℤ) → ¬ (direction ≡ Nothing) → ¬ IsBetter direction v w → ¬ IsBetter direction w v → v ≡ w
one_best Minimize v w is a b = by_lt_z v w (λ less. absurd (a less)) (λ more. by_lt_z w v (λ less. absurd (b less)) (λ other. omega (arith, ints)))
one_best Maximize v w is a b = by_lt_z w v (λ less. absurd (a less)) (λ more. by_lt_z v w (λ less. absurd (b less)) (λ other. omega (arith, ints)))
one_best Nothing v w is a b = absurd (is refl)

-- two optimal policies have one value: 0 without an objective, and else by the direction
module _ (problem : Problem) (policy other : Policy) (v w : ℤ) (one : IsOptimal problem policy v) (two : IsOptimal problem other w) where
  without : problem.objective ≡ None → v ≡ w
  without none = same_Some v w (sym one.worth ∙ is policy ∙ sym (is other) ∙ two.worth)
    where
      is : (p : Policy) → numerator problem p ≡ Some (pos 0)
      is p = ap (λ (o : Option Objective). option_map_or (objective_value problem p) o (Some (pos 0))) none

  by_objective : (o : Option Objective) → problem.objective ≡ o → IfSome o (λ (g : Objective). ¬ (g.direction ≡ Nothing)) → v ≡ w
  by_objective None is proper = without is
  by_objective (Some g) is proper =
      let same : direction_of problem ≡ g.direction = ap (λ (o : Option Objective). option_map_or (λ (x : Objective). x.direction) o Nothing) is in
      one_best (direction_of problem) v w (λ none. proper (sym same ∙ none))
      (two.best policy v one.policy_of one.satisfies one.worth) (one.best other w two.policy_of two.satisfies two.worth)

-- the objective of a text has a direction
goal_proper : (problem : Problem) (o : Option Objective) → IfSome (option_map (goal_terms problem) o) (λ (goal : GoalTerms). (length goal.terms ≡ length (problem_terms problem).weights) × (¬ (goal.direction ≡ Nothing)))
    → IfSome o (λ (g : Objective). ¬ (g.direction ≡ Nothing))
goal_proper problem None is = tt
goal_proper problem (Some g) is = is.1

text_proper : (text : List ℕ) (problem : Problem) → SolvedText text problem → IfSome problem.objective (λ (g : Objective). ¬ (g.direction ≡ Nothing))
text_proper text problem is =
    subst (λ (p : Problem). IfSome p.objective (λ (g : Objective). ¬ (g.direction ≡ Nothing))) is.accepted.stated
    (goal_proper (problem_of is.model) (problem_of is.model).objective
    (problems_are_well_made is.model (model_from_tokens text is.model is.spelled) is.accepted.unfolded).goal)

-- an optimal policy satisfies
not_infeasible : (problem : Problem) (policy : Policy) (value : ℤ) → IsOptimal problem policy value → IsInfeasible problem → ⊥
not_infeasible problem policy value is none = none.none policy is.policy_of is.satisfies

one_problem : (text : List ℕ) (p q : Problem) → SolvedText text p → SolvedText text q → p ≡ q
one_problem = accepted_end_once.one_problem

same_values : (text : List ℕ) (problem : Problem) (policy other : Policy) (v w : ℤ) → SolvedText text problem → IsOptimal problem policy v → IsOptimal problem other w
    → AnswerAlike (line_of (optimal_data problem policy v)) (line_of (optimal_data problem other w))
same_values text problem policy other v w is one two =
    subst (λ value. AnswerAlike (line_of (optimal_data problem policy v)) (line_of (optimal_data problem other value)))
    (by_objective problem policy other v w one two problem.objective refl (text_proper text problem is)) (one_value problem policy other v)

pub settled_answer_alike : SettledAnswerAlike
settled_answer_alike text p q _ _ _ _ (optimal Full problem policy value log is best logged) (optimal Full other policy_too value_too log_too is_too best_too logged_too) =
    let same : other ≡ problem = one_problem text other problem is_too is in
    subst (λ (o : Problem). AnswerAlike (line_of (optimal_data problem policy value)) (line_of (optimal_data o policy_too value_too))) (sym same)
    (same_values text problem policy policy_too value value_too is best (subst (λ (o : Problem). IsOptimal o policy_too value_too) same best_too))
settled_answer_alike text p q _ _ _ _ (optimal Full problem policy value log is best logged) (infeasible Full other log_too is_too none logged_too) =
    absurd (not_infeasible problem policy value best (subst IsInfeasible (one_problem text other problem is_too is) none))
settled_answer_alike text p q _ _ _ _ (infeasible Full problem log is none logged) (optimal Full other policy value log_too is_too best logged_too) =
    absurd (not_infeasible other policy value best (subst IsInfeasible (one_problem text problem other is is_too) none))
settled_answer_alike text p q _ _ _ _ (infeasible Full problem log is none logged) (infeasible Full other log_too is_too none_too logged_too) = none_satisfies
