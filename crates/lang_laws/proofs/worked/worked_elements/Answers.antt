use Rattle.std.proofs.Common.{refl}
use Rattle.sopl_ast.specs.Unfolding.{problem_of, text_events, by_stage}
use Rattle.lang_laws.proofs.worked.worked_elements.Goals as goal

pub returns : goal.returns
unfolding problem_of text_events by_stage
returns c = record {
  outside = λ policy a. rw a refl;
  outside_false = λ policy a. rw a refl;
  outside_negated = λ policy a. rw a refl;
  inside = λ policy a. rw a refl;
  decided = λ policy a b.
      rw (a, b) refl;
}
