use Rattle.std.proofs.Common.{refl}
use Rattle.sopl_ast.specs.Unfolding.{problem_of, text_events, by_stage}
use Rattle.lang_laws.proofs.values.undefined_values.Goals as goal

pub returns : goal.returns
unfolding problem_of text_events by_stage
returns c = record {
  undefined_outside = λ policy a. rw a refl;
  undefined_inside = λ policy a. rw a refl;
  undefined_decided = λ policy a b. rw (a, b) refl;
  undefined_no_value = λ policy a.
      rw a refl;
  undefined_value = λ policy a. rw a refl;
}
