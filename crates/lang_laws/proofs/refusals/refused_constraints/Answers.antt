use Rattle.std.proofs.Common.{refl}
use Rattle.sopl_ast.specs.Unfolding.{problem_of, text_events, by_stage}
use Rattle.lang_laws.proofs.refusals.refused_constraints.Goals as goal

pub returns : goal.returns
unfolding problem_of text_events by_stage
returns c = record {
  end_by_zero = refl;
  divisor_of_sum = refl;
  divisor_at_two = refl;
  element_less_one = refl;
  inner_divisor = refl;
  no_denominator = refl;
  great_denominator =
      refl;
  greatest_threshold = refl;
  both_by_zero = refl;
  threshold_of_two = refl;
  moving_threshold = refl;
  condition_first = refl;
  objective_first = refl;
  moving_range = refl;
}
