use Rattle.std.proofs.Common.{refl}
use Rattle.sopl_ast.specs.Unfolding.{problem_of, text_events, by_stage}
use Rattle.lang_laws.proofs.values.empty_sets.Goals as goal

pub returns : goal.returns
unfolding problem_of text_events by_stage
returns c = record { over_nothing = refl; over_nothing_hards = refl; over_nothing_sum = λ policy. refl; over_nothing_different = λ policy. refl; over_nothing_none = refl }
