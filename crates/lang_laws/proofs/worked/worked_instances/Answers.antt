use Rattle.std.proofs.Common.{refl}
use Rattle.sopl_ast.specs.Unfolding.{problem_of, text_events, by_stage}
use Rattle.lang_laws.proofs.worked.worked_instances.Goals as goal

pub returns : goal.returns
unfolding problem_of text_events by_stage
returns c = record { constants = refl; decisions = refl; stochastics = refl; hards = refl; chances = refl; numbered = refl; thresholds = refl; counted = refl }
