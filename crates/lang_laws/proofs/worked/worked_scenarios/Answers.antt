use Rattle.std.proofs.Common.{refl}
use Rattle.sopl_ast.specs.Unfolding.{problem_of, text_events, by_stage}
use Rattle.lang_laws.proofs.worked.worked_scenarios.Goals as goal

pub returns : goal.returns
unfolding problem_of text_events by_stage
returns c = record { values = refl; weights = refl; all = refl; histories = refl; counts = refl }
