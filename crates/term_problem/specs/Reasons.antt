-- The cells that the conditions and terms of a reason mention, each as often as it stands there.
use Rattle.std.specs.Prelude.{ℕ, List, [], slice_get}
use Rattle.std.specs.List.{flat_map}
use Rattle.std.specs.Option.{option_map_or, option_and_then}
use Rattle.sopl_base.specs.declared.reason.Reason.{Reason}
use Rattle.sopl_base.specs.declared.reason.Reason.TheVariants.{Hard, Chance, Undefined, Bound}
use Rattle.box_problem.specs.Box.{Box}
use Rattle.term_language.specs.Mentions.{cond_mentions, mentions}
use Rattle.term_problem.specs.Problems.{ChanceTerms, GoalTerms, ProblemTerms}

-- a hard constraint's condition in the scenario; a chance constraint's conditions in all scenarios; the objective's term in the scenario; the
-- objective's terms in all scenarios. What is not there mentions nothing.
abbrev pub reason_mentions : Box → ProblemTerms → Reason → List ℕ
reason_mentions root terms (Hard instance scenario) =
    option_map_or (cond_mentions root) (option_and_then (λ conditions. slice_get conditions scenario) (slice_get terms.hards instance)) []
reason_mentions root terms (Chance instance) =
    option_map_or (λ (chance : ChanceTerms). flat_map (cond_mentions root) chance.conditions) (slice_get terms.chances instance) []
reason_mentions root terms (Undefined scenario) =
    option_map_or (λ (goal : GoalTerms). option_map_or (mentions root) (slice_get goal.terms scenario) []) terms.goal []
reason_mentions root terms Bound = option_map_or (λ (goal : GoalTerms). flat_map (mentions root) goal.terms) terms.goal []
