-- Where an expression is the same in two scenarios: all that stands in it has the same values and cells there.
use Rattle.std.specs.Prelude.{◌≡◌, ◌≤◌, ◌<◌, ℕ, ℤ, pos, true, false, List, [], drop, get_or, length}
use Rattle.std.specs.List.{AllByRecursion}
use Rattle.sopl_ast.specs.Instances.{Decision, Problem, Stochastic}
use Rattle.sopl_ast.specs.Known.{Known}
use Rattle.sopl_ast.specs.Mentions.{mentions}
use Rattle.sopl_ast.specs.Scenarios.{Scenario}
use Rattle.sopl_ast.specs.Tree.{Tree}
use Rattle.compile_laws.specs.Instances.{instance, knowing}
use Rattle.compile_laws.specs.Whole.{place_at}

-- a stochastic variable that does not stand in an expression, and is seen at this stage or later
pub record IsPast (e : Tree) (stage : ℕ) (s : Stochastic) : Type 0 where
  pub apart : mentions s.name e ≡ false
  pub late : stage ≤ s.stage

-- the decisions that stand in an expression are taken at this stage at the latest
abbrev pub IsBy : Tree → ℕ → List Decision → Type 0
IsBy e stage ds = AllByRecursion (λ (d : Decision). mentions d.name e ≡ true → d.stage ≤ stage) ds

-- so many first variables, and the decisions up to a stage before which no later variable is seen, are all that stands in an expression
pub record Follows (ds : List Decision) (ss : List Stochastic) (e : Tree) (count : ℕ) : Type 0 where
  pub stage : ℕ
  pub decisions : IsBy e stage ds
  pub variables : AllByRecursion (IsPast e stage) (drop count ss)

-- the values of so many first variables are the same
abbrev pub AgreeOn : ℕ → List ℤ → List ℤ → Type 0
AgreeOn count v w = (j : ℕ) → j < count → get_or v j (pos 0) ≡ get_or w j (pos 0)

-- an expression that follows from the first variables is the same in scenarios in which these have the same values
abbrev pub InstancesRepeat : Type 0
InstancesRepeat =
    (problem : Problem) (known : Known) (s t : Scenario) (e : Tree) (count : ℕ) → Follows problem.decisions problem.stochastics e count
    → length s.values ≡ length t.values → AgreeOn count s.values t.values → instance (knowing (place_at problem [] s) known) e ≡ instance (knowing (place_at problem [] t) known) e
