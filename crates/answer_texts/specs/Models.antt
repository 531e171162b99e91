-- Which models are solved, and why others are not.
use Rattle.std.specs.Prelude.{◌≡◌, Some, None}
use Rattle.sopl_base.specs.declared.fault.Excess.{Excess}
use Rattle.sopl_ast.specs.Unfolding.{problem_of}
use Rattle.sopl_ast.specs.Whole.{ModelTree}
use Rattle.compile_laws.specs.Texts.{program_excess}

-- the model's terms pass no limit
pub record IsSolvable (model : ModelTree) : Type 0 where
  pub allowed : program_excess (problem_of model) ≡ None

-- the model's terms pass this limit
pub record IsLarge (model : ModelTree) (excess : Excess) : Type 0 where
  pub passes : program_excess (problem_of model) ≡ Some excess
