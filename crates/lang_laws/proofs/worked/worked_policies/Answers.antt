use Rattle.std.proofs.Common.{refl}
use Rattle.sopl_ast.specs.Unfolding.{problem_of, text_events, by_stage}
use Rattle.lang_laws.proofs.worked.worked_policies.Goals as goal

pub returns : goal.returns
unfolding problem_of text_events by_stage
returns c = record { ordered = λ policy a b c. rw (a, b, c) refl; over_both = refl; sold = λ policy a. rw a refl; over_three = refl; often = λ policy a. rw a refl }
