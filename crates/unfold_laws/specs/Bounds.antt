-- The numbers of what a text states, where nothing stops its unfolding.
use Rattle.std.specs.Prelude.{ℕ, ◌≤◌, ◌+◌, pos, ◌≤ℤ◌, map, length, IsTrue}
use Rattle.std.specs.List.{AllByRecursion}
use Rattle.sopl_ast.specs.Numbers.{count_between, all_distinct}
use Rattle.sopl_ast.specs.Instances.{Decision, Outcome, Stochastic, distribution}
use Rattle.sopl_ast.specs.Whole.{ModelTree}
use Rattle.sopl_ast.specs.Unfolding.{problem_of, text_events}
use Rattle.sopl_ast.specs.Origin.{IsFromTokens}
use Rattle.sopl_ast.specs.UnfoldEvents.{most_counted, most_numbers}
use Rattle.unfold_laws.specs.Passing.{NothingFails, IsConstant}

-- a stage is 1 to 24
abbrev pub IsStage : ℕ → Type 0
IsStage stage = (1 ≤ stage) × (stage ≤ 24)

-- a domain is not empty, has 65536 values at most, and its ends are of a size that constants have
pub record IsBoundedDecision (d : Decision) : Type 0 where
  pub least : IsConstant d.lo
  pub greatest : IsConstant d.hi
  pub ordered : d.lo ≤ℤ d.hi
  pub few : count_between d.lo d.hi ≤ most_numbers
  pub stage : IsStage d.stage

-- a value and a weight are of a size that constants have, and the weight is 1 at least
pub record IsBoundedOutcome (o : Outcome) : Type 0 where
  pub value : IsConstant o.value
  pub weight : IsConstant o.weight
  pub least : pos 1 ≤ℤ o.weight

-- the outcomes are so, and no two have the same value
pub record IsBoundedStochastic (s : Stochastic) : Type 0 where
  pub outcomes : AllByRecursion IsBoundedOutcome (distribution s)
  pub distinct : IsTrue (all_distinct (map (λ (o : Outcome). o.value) (distribution s)))
  pub stage : IsStage s.stage

-- the decisions of a text that passes
abbrev pub DecisionsAreBounded : Type 0
DecisionsAreBounded = (model : ModelTree) → NothingFails (text_events model) → AllByRecursion IsBoundedDecision (problem_of model).decisions

-- the stochastic variables of a text that passes
abbrev pub StochasticsAreBounded : Type 0
StochasticsAreBounded = (model : ModelTree) → NothingFails (text_events model) → AllByRecursion IsBoundedStochastic (problem_of model).stochastics

-- the stochastic variables of a text have an outcome each
abbrev pub StochasticsHaveOutcomes : Type 0
StochasticsHaveOutcomes =
    (model : ModelTree) → IsFromTokens model → AllByRecursion (λ (s : Stochastic). 1 ≤ length (distribution s)) (problem_of model).stochastics

-- how many instances a text has in all, where nothing stops its unfolding
abbrev pub InstancesAreCounted : Type 0
InstancesAreCounted =
    (model : ModelTree) → NothingFails (text_events model)
    → length (problem_of model).decisions + length (problem_of model).stochastics + length (problem_of model).hards + length (problem_of model).chances ≤ most_counted
