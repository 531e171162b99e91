-- What words ask for, by the brancher that is found.
use Rattle.std.proofs.Common.{◌≡◌, ◌∙◌, ℕ, List, Option, Some, None, Bool, true, false, ap, sym, if◌then◌else◌}
use Rattle.std.specs.Option.{option_and_then}
use Rattle.brancher.specs.Picks.{chosen_rule}
use Rattle.brancher.specs.Rules.{Rule}
use Rattle.sopl_search.specs.Logged.{SearchPlan}
use Rattle.answer_run.specs.Words.{Request, WordRequest, asked_of, asked_with, no_one_has, request_of, request_with}

abbrev plan_with : ℕ → Option ℕ → Option Rule → ℕ → SearchPlan
plan_with seats order asked budget = record { seats = seats; order = order; asked = asked; budget = budget }

module _ (kinds : List (List ℕ × Rule)) (words : List (List ℕ)) where
  abbrev by_words : Option WordRequest → Option Request
  by_words o = option_and_then (λ r. asked_with (chosen_rule kinds r.branch) r) o

  pub none_asked : request_of words ≡ None → asked_of kinds words ≡ None
  none_asked none = ap by_words none

  module _ (r : WordRequest) (found : Option Rule) (is : request_of words ≡ Some r) (chosen : found ≡ chosen_rule kinds r.branch) where
    by_found : asked_of kinds words ≡ asked_with found r
    by_found = ap by_words is ∙ ap (λ o. asked_with o r) (sym chosen)

    abbrev with_bool : Bool → Option Request
    with_bool b = if b then None else Some (request_with r found)

    pub missing_asked : no_one_has r.branch found ≡ true → asked_of kinds words ≡ None
    missing_asked missing = by_found ∙ ap with_bool missing

    pub found_asked : no_one_has r.branch found ≡ false → asked_of kinds words ≡ Some (request_with r found)
    found_asked there = by_found ∙ ap with_bool there
