use Rattle.std.proofs.Common.{refl}
use Rattle.sopl_ast.specs.Unfolding.{problem_of, text_events, by_stage}
use Rattle.lang_laws.proofs.values.valued_policies.Goals as goal

pub returns : goal.returns
unfolding problem_of text_events by_stage
returns c = record {
  greatest_worst = λ policy a b c d e f g. rw (a, b, c, d, e, f, g) refl;
  greatest_worst_denominator = refl;
  greatest_worst_weight = λ policy a b.
      rw (a, b) refl;
  least_worst = λ policy a b c d e f g. rw (a, b, c, d, e, f, g) refl;
  least_worst_denominator = refl;
  least_worst_weight = λ policy a b.
      rw (a, b) refl;
  greatest_expected = λ policy a b c d e f g. rw (a, b, c, d, e, f, g) refl;
  greatest_expected_denominator = refl;
  greatest_expected_weight = λ policy a b. rw (a, b) refl;
}
