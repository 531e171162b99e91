use Rattle.std.proofs.Common.{refl}
use Rattle.sopl_ast.specs.Unfolding.{problem_of, text_events, by_stage}
use Rattle.lang_laws.proofs.worked.worked_refusals.Goals as goal

pub returns : goal.returns
unfolding problem_of text_events by_stage
returns c = record {
  by_zero = refl;
  empty_domain = refl;
  short_bracket = refl;
  no_weight = refl;
  late_stage = refl;
  threshold = refl;
  two_numbers = refl;
  wide_domain = refl;
  long_range =
      refl;
  pairs = refl;
  one_too_many = refl;
}
