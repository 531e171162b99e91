-- What a text states, as it is kept.
use Rattle.std.specs.Prelude.{ℕ, List}
use Rattle.sopl_ast.specs.Accepted.{AcceptedModel, IsTextOf}
use Rattle.sopl_ast.specs.Instances.{Problem}
use Rattle.sopl_ast.specs.Limits.{usual_limits}
use Rattle.sopl_ast.specs.Whole.{ModelTree}
use Rattle.sopl_ast.specs.WholeModel.{whole}
use Rattle.sopl_scen.specs.Layout.{IsTreeOf}
use Rattle.sopl_unfold.specs.GroundProblem.{ground_problem}
use Rattle.scen_accept.specs.declared.accepted.AcceptedProblem.{AcceptedProblem}

-- the model, and the problem that it states
abbrev pub model_in : AcceptedProblem → ModelTree
model_in stated = whole stated.ground.typed.model

abbrev pub problem_in : AcceptedProblem → Problem
problem_in stated = ground_problem stated.ground

-- the scenarios are those of the problem
abbrev pub IsLaid : AcceptedProblem → Type 0
IsLaid stated = IsTreeOf (problem_in stated).decisions (problem_in stated).stochastics stated.tree

-- the text spells the model, and the model is accepted with the problem
pub record States (text : List ℕ) (stated : AcceptedProblem) : Type 0 where
  pub spelled : IsTextOf text (model_in stated)
  pub accepted : AcceptedModel usual_limits (model_in stated) (problem_in stated)
