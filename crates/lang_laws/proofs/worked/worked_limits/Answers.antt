use Rattle.std.proofs.Common.{refl}
use Rattle.sopl_ast.specs.Unfolding.{problem_of, text_events, by_stage}
use Rattle.lang_laws.proofs.worked.worked_limits.Goals as goal

pub returns : goal.returns
unfolding problem_of text_events by_stage
returns c = record { heavy = refl; many = refl; product = refl; bits = refl; nodes = refl; in_scenarios = refl; too_many_nodes = refl; within = refl }
