-- The accepted texts that are solved, and those whose terms pass a limit.
use Rattle.std.specs.Prelude.{ℕ, List}
use Rattle.sopl_base.specs.declared.fault.Excess.{Excess}
use Rattle.sopl_ast.specs.Accepted.{AcceptedModel, IsTextOf}
use Rattle.sopl_ast.specs.Instances.{Problem}
use Rattle.sopl_ast.specs.Limits.{usual_limits}
use Rattle.sopl_ast.specs.Unfolding.{problem_of}
use Rattle.sopl_ast.specs.Whole.{ModelTree}
use Rattle.answer_texts.specs.Models.{IsSolvable, IsLarge}

-- the text spells a model that is accepted and states this problem, and its terms pass no limit
pub record SolvedText (text : List ℕ) (problem : Problem) : Type 0 where
  pub model : ModelTree
  pub spelled : IsTextOf text model
  pub accepted : AcceptedModel usual_limits model problem
  pub solvable : IsSolvable model

-- the text spells a model that is accepted, and its terms pass this limit
pub record IsLimitedInTerms (text : List ℕ) (excess : Excess) : Type 0 where
  pub model : ModelTree
  pub spelled : IsTextOf text model
  pub accepted : AcceptedModel usual_limits model (problem_of model)
  pub large : IsLarge model excess
