-- What closes a box.
use Rattle.std.specs.Prelude.{ℤ, pos, ◌+ℤ◌, ◌*ℤ◌, int_lt, int_le, Bool, true, false, List, [], ◌∷◌, Option, slice_get, if◌then◌else◌}
use Rattle.std.specs.Option.{option_map_or, option_and_then}
use Rattle.sopl_base.specs.declared.direction.Direction.{Direction}
use Rattle.sopl_base.specs.declared.direction.Direction.TheVariants.{Minimize, Maximize, Nothing}
use Rattle.sopl_base.specs.declared.reason.Reason.{Reason}
use Rattle.sopl_base.specs.declared.reason.Reason.TheVariants.{Hard, Chance, Undefined, Bound}
use Rattle.box_problem.specs.Box.{Box}
use Rattle.term_language.specs.declared.answers.Defined.{Defined}
use Rattle.term_language.specs.declared.answers.Defined.TheVariants.{Never, Maybe, Always}
use Rattle.term_language.specs.declared.answers.Truth.{Truth}
use Rattle.term_language.specs.declared.answers.Truth.TheVariants.{False, Unknown, True}
use Rattle.term_language.specs.Ends.{Ends}
use Rattle.term_language.specs.Rules.{Near, mark, truth}
use Rattle.term_language.specs.Terms.{Cond}
use Rattle.term_problem.specs.Problems.{ChanceTerms, GoalTerms, ProblemTerms, direction_in}
use Rattle.term_problem.specs.Objective.{goal_ends}

abbrev pub is_false : Truth → Bool
is_false False = true
is_false Unknown = false
is_false True = false

abbrev pub is_never : Defined → Bool
is_never Never = true
is_never Maybe = false
is_never Always = false

-- the weight of the scenarios in which a condition is not False over a box
abbrev pub weight_left : Box → Box → List ℤ → List Cond → ℤ
weight_left root b [] conditions = pos 0
weight_left root b (weight ∷ weights) [] = pos 0
weight_left root b (weight ∷ weights) (condition ∷ later) =
    if is_false (truth Near root b condition) then weight_left root b weights later else weight +ℤ weight_left root b weights later

-- no number of an interval is better than a value
abbrev pub none_better : Direction → Ends → ℤ → Bool
none_better Minimize a v = int_le v a.low
none_better Maximize a v = int_le a.high v
none_better Nothing a v = true

-- a hard constraint is False in a scenario; a chance constraint's condition is False in too many scenarios; the objective is Never defined in a
-- scenario; no number of the objective's interval is better than a value. What is not there closes nothing.
abbrev pub refutes : Box → ProblemTerms → Reason → Box → Option ℤ → Bool
refutes root terms (Hard instance scenario) b v =
    option_map_or (λ condition. is_false (truth Near root b condition)) (option_and_then (λ conditions. slice_get conditions scenario) (slice_get terms.hards instance)) false
refutes root terms (Chance instance) b v =
    option_map_or (λ (chance : ChanceTerms). int_lt (chance.q *ℤ weight_left root b terms.weights chance.conditions) (chance.p *ℤ terms.whole)) (slice_get terms.chances instance) false
refutes root terms (Undefined scenario) b v =
    option_map_or (λ (goal : GoalTerms). option_map_or (λ term. is_never (mark Near root b term)) (slice_get goal.terms scenario) false) terms.goal false
refutes root terms Bound b v = option_map_or (λ value. none_better (direction_in terms) (goal_ends root b terms) value) v false
