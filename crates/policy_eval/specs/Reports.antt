-- What is told of a policy: that it satisfies, with its value and the sum of each chance constraint, or what fails first.
use Rattle.std.specs.Prelude.{◌≡◌, ◌↔◌, ℕ, ℤ, ◌*ℤ◌, ◌≤ℤ◌, List, map, take, All, Some, IsSome, IsTrue, slice_get}
use Rattle.sopl_ast.specs.Instances.{Chance, Hard, Objective, Problem}
use Rattle.sopl_ast.specs.Optimal.{Satisfies, holds, numerator, value_in, weight_of}
use Rattle.sopl_ast.specs.Policies.{Policy}
use Rattle.sopl_ast.specs.Scenarios.{Scenario, scenarios, total_weight}

-- what is told: the value as its numerator, and the sums in the order of the chance constraints; or a hard constraint's instance and a scenario in which it is false; or a chance
-- constraint's instance and its sum; or a scenario in which the objective is undefined
pub data Judgement : Type 0 where
  satisfied : (value : ℤ) → (sums : List ℤ) → Judgement
  hard : (instance : ℕ) → (scenario : ℕ) → Judgement
  chance : (instance : ℕ) → (sum : ℤ) → Judgement
  objective : (scenario : ℕ) → Judgement

-- the first of a list that is not so is this one, and this is its number
pub record IsFirstOther {A : Type 0} (IsSo : A → Type 0) (all : List A) (number : ℕ) (first : A) : Type 0 where
  pub stands : slice_get all number ≡ Some first
  pub other : ¬ IsSo first
  pub before : All IsSo (take number all)

-- a hard constraint is true in a scenario
abbrev pub HoldsIn : Problem → Policy → Hard → Scenario → Type 0
HoldsIn problem policy h s = IsTrue (holds problem policy h.text h.bound s)

-- and in every scenario
abbrev pub IsHeld : Problem → Policy → Hard → Type 0
IsHeld problem policy h = All (HoldsIn problem policy h) (scenarios problem.stochastics)

-- a chance constraint is true in scenarios that weigh enough
abbrev pub IsReached : Problem → Policy → Chance → Type 0
IsReached problem policy c = (c.p *ℤ total_weight problem.stochastics) ≤ℤ (c.q *ℤ weight_of problem policy c)

-- the objective is defined in a scenario
abbrev pub IsValued : Problem → Policy → Objective → Scenario → Type 0
IsValued problem policy o s = IsSome (value_in problem policy o s)

-- the policy satisfies, has this value, and the scenarios in which the chance constraints are true weigh this
pub record IsSatisfied (problem : Problem) (policy : Policy) (value : ℤ) (sums : List ℤ) : Type 0 where
  pub satisfies : Satisfies problem policy
  pub worth : numerator problem policy ≡ Some value
  pub weights : sums ≡ map (weight_of problem policy) problem.chances

-- the first hard constraint that is false in some scenario, and the first scenario in which it is
pub record FailsHard (problem : Problem) (policy : Policy) (instance scenario : ℕ) : Type 0 where
  pub constraint : Hard
  pub place : Scenario
  pub first : IsFirstOther (IsHeld problem policy) problem.hards instance constraint
  pub earliest : IsFirstOther (HoldsIn problem policy constraint) (scenarios problem.stochastics) scenario place

-- no hard constraint fails; the first chance constraint that does, and the weight of the scenarios in which it is true
pub record FailsChance (problem : Problem) (policy : Policy) (instance : ℕ) (sum : ℤ) : Type 0 where
  pub hards : All (IsHeld problem policy) problem.hards
  pub constraint : Chance
  pub first : IsFirstOther (IsReached problem policy) problem.chances instance constraint
  pub weight : sum ≡ weight_of problem policy constraint

-- no constraint fails; the first scenario in which the objective is undefined
pub record FailsObjective (problem : Problem) (policy : Policy) (scenario : ℕ) : Type 0 where
  pub hards : All (IsHeld problem policy) problem.hards
  pub chances : All (IsReached problem policy) problem.chances
  pub asked : Objective
  pub stands : problem.objective ≡ Some asked
  pub place : Scenario
  pub earliest : IsFirstOther (IsValued problem policy asked) (scenarios problem.stochastics) scenario place

-- this is told of a policy
abbrev pub IsReport : Problem → Policy → Judgement → Type 0
IsReport problem policy (satisfied value sums) = IsSatisfied problem policy value sums
IsReport problem policy (hard instance scenario) = FailsHard problem policy instance scenario
IsReport problem policy (chance instance sum) = FailsChance problem policy instance sum
IsReport problem policy (objective scenario) = FailsObjective problem policy scenario

-- one thing alone is told of a policy
abbrev pub ReportsAreOne : Type 0
ReportsAreOne = (problem : Problem) (policy : Policy) (one other : Judgement) → IsReport problem policy one → IsReport problem policy other → one ≡ other

-- it tells that the policy satisfies
abbrev pub IsSatisfying : Judgement → Type 0
IsSatisfying (satisfied value sums) = Unit {0}
IsSatisfying (hard instance scenario) = ⊥
IsSatisfying (chance instance sum) = ⊥
IsSatisfying (objective scenario) = ⊥

-- and it does so exactly where the policy satisfies
abbrev pub SatisfyingAreTold : Type 0
SatisfyingAreTold = (problem : Problem) (policy : Policy) (told : Judgement) → IsReport problem policy told → IsSatisfying told ↔ Satisfies problem policy
