use Rattle.std.proofs.Common.{refl}
use Rattle.sopl_ast.specs.Unfolding.{problem_of, text_events, by_stage}
use Rattle.lang_laws.proofs.refusals.first_met.Goals as goal

pub returns : goal.returns
unfolding problem_of text_events by_stage
returns c = record {
  length_first = refl;
  divisor_first = refl;
  element_counted = refl;
  element_counted_later = refl;
  binding_counted = refl;
  binding_counted_later = refl;
  constraint_counted =
      refl;
  constraint_counted_later = refl;
}
