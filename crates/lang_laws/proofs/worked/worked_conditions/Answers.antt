use Rattle.std.proofs.Common.{refl}
use Rattle.sopl_ast.specs.Unfolding.{problem_of, text_events, by_stage}
use Rattle.lang_laws.proofs.worked.worked_conditions.Goals as goal

pub returns : goal.returns
unfolding problem_of text_events by_stage
returns c = record {
  alike = λ policy a b c. rw (a, b, c) refl;
  different = λ policy a b c. rw (a, b, c) refl;
  apart = λ policy a b. rw (a, b) refl;
  together = λ policy a b.
      rw (a, b) refl;
  end = λ policy a b. rw (a, b) refl;
}
