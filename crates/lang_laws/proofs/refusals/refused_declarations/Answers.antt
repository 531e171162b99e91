use Rattle.std.proofs.Common.{refl}
use Rattle.sopl_ast.specs.Unfolding.{problem_of, text_events, by_stage}
use Rattle.lang_laws.proofs.refusals.refused_declarations.Goals as goal

pub returns : goal.returns
unfolding problem_of text_events by_stage
returns c = record {
  twice_no_weight = refl;
  first_no_weight = refl;
  outcome_by_zero = refl;
  weight_before_stage = refl;
  repeated_product = refl;
  repeated_at_two = refl;
  empty_named_domain =
      refl;
  backward_domain = refl;
  wide_before_stage = refl;
  empty_before_stage = refl;
  end_before_stage = refl;
  widest_range = refl;
  full_domains = refl;
  long_dimension = refl;
  longer_row =
      refl;
  bracket_first = refl;
  stage_zero = refl;
  stage_by_zero = refl;
  last_stage = refl;
  element_by_zero = refl;
}
