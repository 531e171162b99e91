-- The objective over a box.
use Rattle.std.specs.Prelude.{ℕ, ◌*◌, max, unsigned_abs, ℤ, pos, List, [], ◌∷◌, if◌then◌else◌}
use Rattle.std.specs.Option.{option_map_or}
use Rattle.sopl_base.specs.declared.direction.Direction.{Direction}
use Rattle.sopl_base.specs.declared.direction.Direction.TheVariants.{Minimize, Maximize, Nothing}
use Rattle.box_problem.specs.Box.{Box}
use Rattle.term_language.specs.Ends.{Ends, ends, exactly, plus, scaled}
use Rattle.term_language.specs.Forms.{Form, number_form, plus_form, whole}
use Rattle.term_language.specs.Rules.{Near, form, atoms, interval}
use Rattle.term_language.specs.Sizes.{size}
use Rattle.term_language.specs.Terms.{Term}
use Rattle.term_problem.specs.Points.{worse}
use Rattle.term_problem.specs.Problems.{GoalTerms, ProblemTerms, denominator_in}

-- the linear form that sums weight times form over the scenarios
abbrev pub expected_form : Box → List ℤ → List Term → Form
expected_form root [] terms = number_form (pos 0)
expected_form root (weight ∷ weights) [] = number_form (pos 0)
expected_form root (weight ∷ weights) (term ∷ later) = plus_form weight (expected_form root weights later) (form root term)

-- the interval of all that is in it besides its constant and its cells
abbrev pub expected_atoms : Box → Box → List ℤ → List Term → Ends
expected_atoms root b [] terms = exactly (pos 0)
expected_atoms root b (weight ∷ weights) [] = exactly (pos 0)
expected_atoms root b (weight ∷ weights) (term ∷ later) =
    plus (scaled weight (atoms Near root b term)) (expected_atoms root b weights later)

abbrev pub expected_ends : Box → Box → List ℤ → List Term → Ends
expected_ends root b weights terms = whole b (expected_form root weights terms) (expected_atoms root b weights terms)

-- of both ends the worse one over the scenarios; there is at least one
abbrev pub worse_ends : Direction → Ends → Ends → Ends
worse_ends direction a b = ends (worse direction a.low b.low) (worse direction a.high b.high)

abbrev pub worst_ends : Direction → Box → Box → List Term → Ends
worst_ends direction root b [] = exactly (pos 0)
worst_ends direction root b (last ∷ []) = interval Near root b last
worst_ends direction root b (first ∷ second ∷ later) =
    worse_ends direction (interval Near root b first) (worst_ends direction root b (second ∷ later))

-- the interval of the objective; 0 alone where there is none
abbrev pub goal_ends_of : Box → Box → List ℤ → GoalTerms → Ends
goal_ends_of root b weights goal =
    if goal.worst then worst_ends goal.direction root b goal.terms else expected_ends root b weights goal.terms

abbrev pub goal_ends : Box → Box → ProblemTerms → Ends
goal_ends root b terms = option_map_or (goal_ends_of root b terms.weights) terms.goal (exactly (pos 0))

-- the better end of an interval
abbrev pub better_end : Direction → Ends → ℤ
better_end Minimize a = a.low
better_end Maximize a = a.high
better_end Nothing a = pos 0

-- the greatest size of an objective's terms
abbrev pub greatest_size : Box → List Term → ℕ
greatest_size root [] = 0
greatest_size root (term ∷ later) = max (size root term) (greatest_size root later)

-- that many times the denominator of values, which bounds the numbers of the objective's interval; 0 where there is no objective
abbrev pub goal_size : Box → ProblemTerms → ℕ
goal_size root terms = option_map_or (λ (goal : GoalTerms). unsigned_abs (denominator_in terms) * greatest_size root goal.terms) terms.goal 0
