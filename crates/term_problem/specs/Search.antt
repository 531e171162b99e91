-- A problem in terms as a search sees it.
use Rattle.std.specs.Prelude.{ℕ, ℤ, pos, ◌*ℤ◌, int_le, Bool, true, ◌&&◌, List, [], ◌∷◌, ◌++◌, length, map, is_some, unwrap_or}
use Rattle.std.specs.List.{list_all, flat_map, range_with_len}
use Rattle.std.specs.Option.{option_map_or}
use Rattle.sopl_base.specs.declared.reason.Reason.{Reason}
use Rattle.sopl_base.specs.declared.reason.Reason.TheVariants.{Hard, Chance, Undefined, Bound}
use Rattle.box_problem.specs.Box.{Box}
use Rattle.box_problem.specs.BoxProblem.{BoxProblem}
use Rattle.term_language.specs.Values.{value, holds}
use Rattle.term_problem.specs.Problems.{ChanceTerms, GoalTerms, ProblemTerms, direction_in}
use Rattle.term_problem.specs.Points.{weight_where, worth}
use Rattle.term_problem.specs.Objective.{goal_ends, better_end}
use Rattle.term_problem.specs.Refuted.{refutes}

-- all reasons of a problem
abbrev pub numbers_to : ℕ → List ℕ
numbers_to n = range_with_len 0 n

abbrev pub reasons_of : ProblemTerms → List Reason
reasons_of terms =
    flat_map (λ i. map (Hard i) (numbers_to (length terms.weights))) (numbers_to (length terms.hards))
    ++ map Chance (numbers_to (length terms.chances))
    ++ map Undefined (numbers_to (length terms.weights))
    ++ Bound ∷ []

-- whether a point satisfies
abbrev pub satisfies : ProblemTerms → List ℤ → Bool
satisfies terms point =
    list_all (list_all (holds point)) terms.hards
    && (list_all (λ (chance : ChanceTerms). int_le (chance.p *ℤ terms.whole) (chance.q *ℤ weight_where point terms.weights chance.conditions)) terms.chances
    && option_map_or (λ (goal : GoalTerms). list_all (λ term. is_some (value point term)) goal.terms) terms.goal true)

abbrev pub problem_over : Box → ProblemTerms → BoxProblem
problem_over root terms =
    record {
      root = root;
      reasons = reasons_of terms;
      refutes = refutes root terms;
      satisfies = satisfies terms;
      value = λ point. unwrap_or (worth terms point) (pos 0);
      direction = direction_in terms;
      end = λ b. better_end (direction_in terms) (goal_ends root b terms);
    }
