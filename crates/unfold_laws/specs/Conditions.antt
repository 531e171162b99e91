-- What is met in the condition of each instance of a constraint, where nothing stops the unfolding of a text.
use Rattle.std.specs.Prelude.{◌≡◌, ℕ, ℤ, pos, ◌≤ℤ◌, List, Some, IfSome, slice_get}
use Rattle.std.specs.List.{AllByRecursion}
use Rattle.sopl_base.specs.declared.limits.TheConstants as largest
use Rattle.sopl_ast.specs.Tree.{Tree}
use Rattle.sopl_ast.specs.Whole.{ModelTree, GoalTree}
use Rattle.sopl_ast.specs.Known.{Binding, Known}
use Rattle.sopl_ast.specs.UnfoldEvents.{expression_events}
use Rattle.sopl_ast.specs.Instances.{Hard, Chance}
use Rattle.sopl_ast.specs.Unfolding.{problem_of, text_events}
use Rattle.unfold_laws.specs.Passing.{NothingFails}

-- what is known where binders give this
abbrev pub placed : Known → List Binding → Known
placed known bound = record known { bound = bound }

-- there is a condition with this number, and its divisors and ranges have their values where binders give this
pub record IsMet (known : Known) (conditions : List Tree) (text : ℕ) (bound : List Binding) : Type 0 where
  pub condition : Tree
  pub stands : slice_get conditions text ≡ Some condition
  pub passes : NothingFails (expression_events (placed known bound) condition)

-- a threshold is a fraction from 0 to 1, with a denominator of at most 2^20
pub record IsThreshold (p q : ℤ) : Type 0 where
  pub least : pos 0 ≤ℤ p
  pub most : p ≤ℤ q
  pub positive : pos 1 ≤ℤ q
  pub small : q ≤ℤ largest.DENOMINATOR

-- the instances of hard constraints of a text that passes
abbrev pub HardsAreMet : Type 0
HardsAreMet =
    (model : ModelTree) → NothingFails (text_events model)
    → AllByRecursion (λ (h : Hard). IsMet (problem_of model).known (problem_of model).conditions h.text h.bound) (problem_of model).hards

-- the instances of chance constraints of a text that passes
abbrev pub ChancesAreMet : Type 0
ChancesAreMet =
    (model : ModelTree) → NothingFails (text_events model)
    → AllByRecursion (λ (c : Chance). IsMet (problem_of model).known (problem_of model).conditions c.text c.bound × IsThreshold c.p c.q) (problem_of model).chances

-- the objective of a text that passes
abbrev pub ObjectiveIsMet : Type 0
ObjectiveIsMet =
    (model : ModelTree) → NothingFails (text_events model)
    → IfSome model.goal (λ (goal : GoalTree). NothingFails (expression_events (problem_of model).known goal.expr))
