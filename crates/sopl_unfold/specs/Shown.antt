-- What declarations and a ground problem show.
use Rattle.std.specs.Prelude.{◌≡◌}
use Rattle.sopl_ast.specs.Declarations as d
use Rattle.sopl_ast.specs.Whole.{ModelTree}
use Rattle.sopl_ast.specs.Unfolding.{problem_of, text_events}
use Rattle.unfold_laws.specs.Passing.{NothingFails}
use Rattle.unfold_tables.specs.Tables.{table_known}
use Rattle.sopl_unfold.specs.declared.declared.Declared.{Declared}
use Rattle.sopl_unfold.specs.declared.ground.StatedParts.{StatedParts}

-- what declarations state, as it is kept
abbrev pub declared_in : Declared → d.Declared
declared_in found = record { known = table_known found.table; decisions = found.decisions.items; stochastics = found.stochs.items }

-- nothing stops the unfolding of the model, and what was found is what it states
pub record Unfolds (model : ModelTree) (found : StatedParts) : Type 0 where
  pub passes : NothingFails (text_events model)
  pub known : table_known found.table ≡ (problem_of model).known
  pub decisions : found.decisions.items ≡ (problem_of model).decisions
  pub stochastics : found.stochs.items ≡ (problem_of model).stochastics
  pub hards : found.hards.items ≡ (problem_of model).hards
  pub chances : found.chances.items ≡ (problem_of model).chances
