use Rattle.std.proofs.Common.{refl}
use Rattle.sopl_ast.specs.Unfolding.{problem_of, text_events, by_stage}
use Rattle.lang_laws.proofs.worked.worked_numbers.Goals as goal

pub returns : goal.returns
unfolding problem_of text_events by_stage
returns c = record {
  quotients = refl;
  remainders = refl;
  quotients_meant = λ policy. refl;
  remainders_meant = λ policy. refl;
  by_zero = refl;
  greatest = refl;
  past_greatest = refl;
  no_bound =
      λ policy. refl;
  sum = refl;
  empty_sum = refl;
  empty_sum_meant = λ policy. refl;
}
