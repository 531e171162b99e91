use Rattle.std.proofs.Common.{refl}
use Rattle.sopl_ast.specs.Unfolding.{problem_of, text_events, by_stage}
use Rattle.lang_laws.proofs.problems.stated_parts.Goals as goal

pub returns : goal.returns
unfolding problem_of text_events by_stage
returns c = record {
  set_of_three = refl;
  set_of_three_decisions = refl;
  set_of_three_hards = refl;
  counts = refl;
  counts_within = refl;
  counts_past = refl;
  staged = refl;
  staged_stochastics =
      refl;
  nested = refl;
  nested_hards = refl;
  nested_chances = refl;
  summed_ends = refl;
  threshold_of_conditions = refl;
  threshold_of_conditions_chances = refl;
}
