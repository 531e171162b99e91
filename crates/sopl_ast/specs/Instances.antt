-- The instances of an unfolded text: its decisions, its stochastic variables, its constraints and its objective.
use Rattle.std.specs.Prelude.{ℕ, ℤ, Bool, List, map, ◌++◌, Option}
use Rattle.sopl_base.specs.declared.direction.Direction.{Direction}
use Rattle.sopl_ast.specs.Tree.{Tree}
use Rattle.sopl_ast.specs.Known.{Known}
pub use Rattle.sopl_ast.specs.Known.{Binding}

-- a decision: its name and index (no index for a scalar), the ends of its domain, and the stage at which it is chosen
pub record Decision : Type 0 where
  pub name : List ℕ
  pub index : List ℤ
  pub lo : ℤ
  pub hi : ℤ
  pub stage : ℕ

-- a value that a stochastic variable may take, and its weight
pub record Outcome : Type 0 where
  pub value : ℤ
  pub weight : ℤ

-- a stochastic variable: its name and index, its outcomes as they are written, and the stage after which it is seen
pub record Stochastic : Type 0 where
  pub name : List ℕ
  pub index : List ℤ
  pub outcomes : List Outcome
  pub stage : ℕ

-- a stochastic variable that depends on no other one
abbrev pub independent : List ℕ → List ℤ → List Outcome → ℕ → Stochastic
independent name index outcomes stage = record { name = name; index = index; outcomes = outcomes; stage = stage }

-- the outcomes of a stochastic variable as they are written
abbrev pub distribution : Stochastic → List Outcome
distribution s = s.outcomes

-- the names of decisions and of stochastic variables
abbrev pub names_in : List Decision → List Stochastic → List (List ℕ)
names_in decisions stochastics = map (λ (d : Decision). d.name) decisions ++ map (λ (s : Stochastic). s.name) stochastics

-- a constraint that holds in every scenario: the number of its condition, and what its binders give
pub record Hard : Type 0 where
  pub text : ℕ
  pub bound : List Binding

-- a constraint that is true in scenarios that weigh at least p / q of all: the number of its condition, what its binders give, and p and q
pub record Chance : Type 0 where
  pub text : ℕ
  pub bound : List Binding
  pub p : ℤ
  pub q : ℤ

-- what is asked for: the direction, whether the worst scenario counts or the expected value, and the expression
pub record Objective : Type 0 where
  pub direction : Direction
  pub worst : Bool
  pub value : Tree

-- an unfolded text: what is known behind its declarations, decisions in text order, stochastic variables by stage and then in text order, the
-- conditions of the text's constraints in text order, the constraints' instances, and the objective where there is one
pub record Problem : Type 0 where
  pub known : Known
  pub decisions : List Decision
  pub stochastics : List Stochastic
  pub conditions : List Tree
  pub hards : List Hard
  pub chances : List Chance
  pub objective : Option Objective
