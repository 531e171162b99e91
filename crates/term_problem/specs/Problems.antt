-- A whole problem in terms over cells: the condition of each constraint and the objective's term, in each scenario.
use Rattle.std.specs.Prelude.{◌≡◌, ◌≤◌, pos, ℤ, ◌≤ℤ◌, Bool, List, length, Option, IfSome, if◌then◌else◌}
use Rattle.std.specs.Option.{option_map_or}
use Rattle.std.specs.List.{AllByRecursion}
use Rattle.sopl_base.specs.declared.direction.Direction.{Direction}
use Rattle.sopl_base.specs.declared.direction.Direction.TheVariants.{Nothing}
use Rattle.term_language.specs.Globals.{total}
use Rattle.term_language.specs.Laws.{IsProper, IsProperCond}
use Rattle.term_language.specs.Terms.{Term, Cond}

-- a chance constraint: its condition in each scenario, and p and q
pub record ChanceTerms : Type 0 where
  pub conditions : List Cond
  pub p : ℤ
  pub q : ℤ

-- an objective: its direction, whether the worst scenario counts or the expected value, and its term in each scenario
pub record GoalTerms : Type 0 where
  pub direction : Direction
  pub worst : Bool
  pub terms : List Term

-- a problem: the weight of each scenario and that of all together, the condition of each hard constraint in each scenario, the chance constraints, and
-- the objective where there is one
pub record ProblemTerms : Type 0 where
  pub weights : List ℤ
  pub whole : ℤ
  pub hards : List (List Cond)
  pub chances : List ChanceTerms
  pub goal : Option GoalTerms

-- which values are better
abbrev pub direction_in : ProblemTerms → Direction
direction_in terms = option_map_or (λ (goal : GoalTerms). goal.direction) terms.goal Nothing

-- the one denominator of all values: the weight of all scenarios for an expected objective, else 1
abbrev pub denominator_in : ProblemTerms → ℤ
denominator_in terms = option_map_or (λ (goal : GoalTerms). if goal.worst then pos 1 else terms.whole) terms.goal (pos 1)

-- all arrays in a problem have one item for each index, and no index twice
pub record AreProperTerms (terms : ProblemTerms) : Type 0 where
  pub hards : AllByRecursion (AllByRecursion IsProperCond) terms.hards
  pub chances : AllByRecursion (λ (chance : ChanceTerms). AllByRecursion IsProperCond chance.conditions) terms.chances
  pub goal : IfSome terms.goal (λ (goal : GoalTerms). AllByRecursion IsProper goal.terms)

-- a chance constraint has a condition for each scenario, and p / q is a fraction
pub record IsChance (terms : ProblemTerms) (chance : ChanceTerms) : Type 0 where
  pub each : length chance.conditions ≡ length terms.weights
  pub positive : pos 1 ≤ℤ chance.q

-- a problem as it is made: there is a scenario, each weighs something, and together they weigh the whole; there is a condition, and a term of the
-- objective, for each scenario
pub record IsProblem (terms : ProblemTerms) : Type 0 where
  pub first : 1 ≤ length terms.weights
  pub weighs : AllByRecursion (λ weight. pos 1 ≤ℤ weight) terms.weights
  pub whole : terms.whole ≡ total terms.weights
  pub hards : AllByRecursion (λ (conditions : List Cond). length conditions ≡ length terms.weights) terms.hards
  pub chances : AllByRecursion (IsChance terms) terms.chances
  pub goal : IfSome terms.goal (λ (goal : GoalTerms). (length goal.terms ≡ length terms.weights) × (¬ goal.direction ≡ Nothing))
  pub proper : AreProperTerms terms
