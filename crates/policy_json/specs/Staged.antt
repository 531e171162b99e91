-- Problems whose stochastic variables come stage by stage.
use Rattle.std.specs.Prelude.{ℕ, ◌≤◌, List, [], ◌∷◌, All, length}
use Rattle.sopl_ast.specs.Instances.{Stochastic, Problem, distribution}
use Rattle.sopl_ast.specs.Origin.{IsFromTokens}
use Rattle.sopl_ast.specs.Unfolding.{problem_of, text_events}
use Rattle.sopl_ast.specs.Whole.{ModelTree}
use Rattle.unfold_laws.specs.Passing.{NothingFails}

-- the stages of stochastic variables ascend, from this stage on
abbrev pub Ascend : ℕ → List Stochastic → Type 0
Ascend from [] = Unit {0}
Ascend from (first ∷ later) = (from ≤ first.stage) × Ascend first.stage later

-- the stochastic variables come by stage, from stage 1 on, and each has an outcome
pub record IsStaged (problem : Problem) : Type 0 where
  pub ascending : Ascend 1 problem.stochastics
  pub outcomes : All (λ (s : Stochastic). 1 ≤ length (distribution s)) problem.stochastics

-- so comes the problem of a text that was read and is unfolded whole
abbrev pub TextsAreStaged : Type 0
TextsAreStaged = (model : ModelTree) → IsFromTokens model → NothingFails (text_events model) → IsStaged (problem_of model)
