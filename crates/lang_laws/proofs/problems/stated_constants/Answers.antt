use Rattle.std.proofs.Common.{refl}
use Rattle.sopl_ast.specs.Unfolding.{problem_of, text_events, by_stage}
use Rattle.lang_laws.proofs.problems.stated_constants.Goals as goal

pub returns : goal.returns
unfolding problem_of text_events by_stage
returns c = record {
  within_sum = refl;
  within_sum_value = refl;
  within_terms = refl;
  within_terms_value = refl;
  empty_arrays = refl;
  no_inner_range = refl;
  bracket_names =
      refl;
  bracket_names_values = refl;
  conditions_counted = refl;
  conditions_counted_value = refl;
  functions_counted = refl;
  functions_counted_value = refl;
  tasks_counted =
      refl;
  tasks_counted_value = refl;
  operators_in_turn = refl;
  operators_in_turn_values = refl;
  negative_elements = refl;
  negative_elements_values = refl;
  least_constant =
      refl;
  least_constant_value = refl;
}
