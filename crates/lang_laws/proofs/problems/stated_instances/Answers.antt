use Rattle.std.proofs.Common.{refl}
use Rattle.sopl_ast.specs.Unfolding.{problem_of, text_events, by_stage}
use Rattle.lang_laws.proofs.problems.stated_instances.Goals as goal

pub returns : goal.returns
unfolding problem_of text_events by_stage
returns c = record {
  crossed = refl;
  crossed_constants = refl;
  crossed_decisions = refl;
  crossed_stochastics = refl;
  crossed_hards = refl;
  crossed_chances = refl;
  crossed_weight =
      refl;
  crossed_values = refl;
  crossed_weights = refl;
  crossed_history = refl;
  crossed_histories = refl;
  crossed_always = λ policy a b. rw (a, b) refl;
  crossed_seldom = λ policy a b.
      rw (a, b) refl;
  crossed_at_one = λ policy a. rw a refl;
  drawn_against_text = refl;
  drawn_against_text_decisions = refl;
  drawn_against_text_second = refl;
  drawn_against_text_last =
      refl;
  drawn_against_text_only = refl;
  drawn_against_text_none = refl;
  drawn_against_text_one = refl;
  drawn_against_text_places = refl;
}
