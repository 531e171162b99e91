use Rattle.std.proofs.Common.{refl}
use Rattle.sopl_ast.specs.Unfolding.{problem_of, text_events, by_stage}
use Rattle.lang_laws.proofs.refusals.refused_constants.Goals as goal

pub returns : goal.returns
unfolding problem_of text_events by_stage
returns c = record {
  sum_end = refl;
  sum_begin = refl;
  inner_range = refl;
  great_prefix = refl;
  great_product = refl;
  great_inside = refl;
  great_part = refl;
  great_compared = refl;
  times_zero =
      refl;
  not_spared = refl;
  outside_array = refl;
  rest_by_zero = refl;
  by_condition = refl;
  outside_later = refl;
  past_least = refl;
  great_index = refl;
}
