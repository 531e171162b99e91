use Rattle.std.proofs.Common.{refl}
use Rattle.sopl_ast.specs.Unfolding.{problem_of, text_events, by_stage}
use Rattle.lang_laws.proofs.values.defined_values.Goals as goal

pub returns : goal.returns
unfolding problem_of text_events by_stage
returns c = record {
  settled_truths = λ policy a b. rw (a, b) refl;
  settled_none_counted = λ policy a. rw a refl;
  settled_one_counted = λ policy a. rw a refl;
  settled_not_often = λ policy a.
      rw a refl;
  measured_nodes = refl;
  measured_truths = λ policy a b c. rw (a, b, c) refl;
}
