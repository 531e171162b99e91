-- The weight that is left to a chance constraint, scenario by scenario.
use Rattle.std.specs.Prelude.{ℕ, ℤ, pos, ◌-ℤ◌, Bool, List, [], Option, slice_get, unwrap_or, length, if◌then◌else◌}
use Rattle.std.specs.List.{filter}
use Rattle.std.specs.Option.{option_and_then, option_map_or}
use Rattle.box_problem.specs.Box.{Box}
use Rattle.term_language.specs.declared.answers.Truth.{Truth}
use Rattle.term_language.specs.declared.answers.Truth.TheVariants.{False, Unknown, True}
use Rattle.term_language.specs.Rules.{Near, truth}
use Rattle.term_language.specs.Terms.{Cond}
use Rattle.term_language.specs.Mentions.{cond_mentions}
use Rattle.term_problem.specs.Problems.{ChanceTerms, ProblemTerms}
use Rattle.term_problem.specs.Refuted.{is_false}
use Rattle.term_problem.specs.Search.{numbers_to}
use Rattle.term_program.specs.Programs.{kept}
use Rattle.prop_shave.specs.Sums.{has_cell, sum_over}

-- the condition of a chance constraint in a scenario, and the weight of a scenario
abbrev pub condition_in : ProblemTerms → ℕ → ℕ → Option Cond
condition_in terms instance scenario =
    option_and_then (λ (chance : ChanceTerms). slice_get chance.conditions scenario) (slice_get terms.chances instance)

abbrev pub weight_at : ProblemTerms → ℕ → ℤ
weight_at terms scenario = unwrap_or (slice_get terms.weights scenario) (pos 0)

-- the truth of that condition over a box
abbrev pub truth_over : Box → ProblemTerms → ℕ → Box → ℕ → Truth
truth_over root terms instance b scenario = option_map_or (truth Near root b) (condition_in terms instance scenario) False

-- that weight, unless the condition is False there over a box
abbrev pub weight_over : Box → ProblemTerms → ℕ → Box → ℕ → ℤ
weight_over root terms instance b scenario =
    option_map_or (λ cond. kept (is_false (truth Near root b cond)) (weight_at terms scenario)) (condition_in terms instance scenario) (pos 0)

-- the weight of all scenarios in which the condition is not False over a box
abbrev pub left_over : Box → ProblemTerms → ℕ → Box → ℤ
left_over root terms instance b = sum_over (weight_over root terms instance b) (numbers_to (length terms.weights))

-- what a scenario of this weight counts for a condition that is not known
abbrev pub at_risk : Truth → ℤ → ℤ
at_risk False weight = pos 0
at_risk Unknown weight = weight
at_risk True weight = pos 0

-- the cells that the condition mentions in a scenario; whether a cell is one of them, and the scenarios in which it is
abbrev pub condition_cells : Box → ProblemTerms → ℕ → ℕ → List ℕ
condition_cells root terms instance scenario = option_map_or (cond_mentions root) (condition_in terms instance scenario) []

abbrev pub is_touched : Box → ProblemTerms → ℕ → ℕ → ℕ → Bool
is_touched root terms instance cell scenario = has_cell cell (condition_cells root terms instance scenario)

abbrev pub touched_by : Box → ProblemTerms → ℕ → ℕ → List ℕ
touched_by root terms instance cell = filter (is_touched root terms instance cell) (numbers_to (length terms.weights))

-- the weight of a scenario that no value of the cell takes away, as the truths over the box tell, and that of all scenarios
abbrev pub sure_over : Box → ProblemTerms → ℕ → Box → ℕ → ℕ → ℤ
sure_over root terms instance b cell scenario =
    if is_touched root terms instance cell scenario then weight_over root terms instance b scenario -ℤ at_risk (truth_over root terms instance b scenario) (weight_at terms scenario)
    else weight_over root terms instance b scenario

abbrev pub sure_weight : Box → ProblemTerms → ℕ → Box → ℕ → ℤ
sure_weight root terms instance b cell = sum_over (sure_over root terms instance b cell) (numbers_to (length terms.weights))
