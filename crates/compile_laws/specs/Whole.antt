-- A whole problem of a text as a problem in terms over cells: the condition of each constraint and the objective's term, in each scenario.
use Rattle.std.specs.Prelude.{◌≡◌, ℕ, ◌+◌, ℤ, List, [], ◌∷◌, length, map, Some, option_map, unwrap_or, slice_get}
use Rattle.std.specs.Option.{option_map_or}
use Rattle.sopl_base.specs.Better.{IsBetter}
use Rattle.sopl_ast.specs.Known.{Binding}
use Rattle.sopl_ast.specs.Instances.{Decision, Stochastic, Hard, Chance, Objective, Problem}
use Rattle.sopl_ast.specs.Scenarios.{Scenario, scenarios, total_weight}
use Rattle.sopl_ast.specs.Histories.{history, histories, number_of}
use Rattle.sopl_ast.specs.Cells.{Cell, IsPoint}
use Rattle.term_language.specs.Terms as c
use Rattle.term_problem.specs.Problems.{ChanceTerms, GoalTerms, ProblemTerms, direction_in}
use Rattle.term_problem.specs.Points.{Holds, worth}
use Rattle.compile_laws.specs.Instances.{Place, instance}
use Rattle.compile_laws.specs.Laws.{place_for}

-- Cells.

-- the numbers of the cells of decisions in a scenario of these values; so many cells stand before: a decision has a cell for each history of its stage
abbrev pub numbers_from : ℕ → List Stochastic → List ℤ → List Decision → List ℕ
numbers_from first stochastics values [] = []
numbers_from first stochastics values (d ∷ later) =
    (first + unwrap_or (number_of (history d.stage stochastics values) d.stage stochastics) 0)
    ∷ numbers_from (first + length (histories d.stage stochastics)) stochastics values later

-- the numbers of the cells of a problem's decisions in a scenario
abbrev pub cell_numbers : Problem → Scenario → List ℕ
cell_numbers problem s = numbers_from 0 problem.stochastics s.values problem.decisions

-- where the problem's expressions are instantiated in a scenario
abbrev pub place_at : Problem → List Binding → Scenario → Place
place_at problem bound s = place_for problem bound s (cell_numbers problem s)

-- Terms.

-- the condition with this number in a scenario; one that is not there is never true
abbrev pub condition_at : Problem → ℕ → List Binding → Scenario → c.Cond
condition_at problem text bound s =
    option_map_or (λ condition. (instance (place_at problem bound s) condition).cond) (slice_get problem.conditions text) (c.Any c.no_cond)

abbrev pub hard_terms : Problem → Hard → List c.Cond
hard_terms problem h = map (condition_at problem h.text h.bound) (scenarios problem.stochastics)

abbrev pub chance_terms : Problem → Chance → ChanceTerms
chance_terms problem chance =
    record { conditions = map (condition_at problem chance.text chance.bound) (scenarios problem.stochastics); p = chance.p; q = chance.q }

abbrev pub goal_terms : Problem → Objective → GoalTerms
goal_terms problem objective =
    record {
      direction = objective.direction;
      worst = objective.worst;
      terms = map (λ s. (instance (place_at problem [] s) objective.value).term) (scenarios problem.stochastics);
    }

abbrev pub problem_terms : Problem → ProblemTerms
problem_terms problem =
    record {
      weights = map (λ (s : Scenario). s.weight) (scenarios problem.stochastics);
      whole = total_weight problem.stochastics;
      hards = map (hard_terms problem) problem.hards;
      chances = map (chance_terms problem) problem.chances;
      goal = option_map (goal_terms problem) problem.objective;
    }

-- The best point.

-- a point of these cells satisfies and has this value, and no point that satisfies has a better one
pub record IsBestPoint (all : List Cell) (terms : ProblemTerms) (point : List ℤ) (value : ℤ) : Type 0 where
  pub inside : IsPoint all point
  pub satisfies : Holds terms point
  pub valued : worth terms point ≡ Some value
  pub best : (other : List ℤ) (better : ℤ) → IsPoint all other → Holds terms other → worth terms other ≡ Some better → ¬ IsBetter (direction_in terms) better value
