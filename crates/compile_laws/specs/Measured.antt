-- Which sizes of a problem in terms are limited, and which of them passes its limit first.
use Rattle.std.specs.Prelude.{◌≡◌, ◌⊎◌, ℕ, ◌+◌, ◌^◌, nat_le, ℤ, pos, ◌*ℤ◌, List, [], ◌∷◌, ◌++◌, Option, Some, None, option_map, option_and_then, Result, Ok, Err, if◌then◌else◌}
use Rattle.std.specs.List.{flat_map}
use Rattle.std.specs.Option.{option_map_or}
use Rattle.sopl_base.specs.declared.fault.Excess.{Excess}
use Rattle.sopl_base.specs.declared.fault.Fault.{Fault}
use Rattle.sopl_base.specs.declared.fault.Fault.TheVariants.{Limit, NoMemory}
use Rattle.sopl_base.specs.declared.codes.TheConstants as codes
use Rattle.sopl_base.specs.declared.limits.TheConstants as largest
use Rattle.sopl_ast.specs.Limits.{first_above}
use Rattle.sopl_ast.specs.Numbers.{or_else}
use Rattle.sopl_ast.specs.UnfoldEvents.{excess}
use Rattle.box_problem.specs.Box.{Box}
use Rattle.term_language.specs.Sizes.{size}
use Rattle.term_language.specs.Terms.{Term, Cond}
use Rattle.term_problem.specs.Objective.{greatest_size}
use Rattle.term_problem.specs.Problems.{ChanceTerms, GoalTerms, ProblemTerms}
use Rattle.compile_laws.specs.Subterms.{subterms, condition_subterms}

-- the number expressions in a constraint's conditions, scenario by scenario
abbrev pub constraint_subterms : List Cond → List Term
constraint_subterms conditions = flat_map condition_subterms conditions

-- those in an objective's terms, scenario by scenario
abbrev pub goal_subterms : GoalTerms → List Term
goal_subterms goal = flat_map subterms goal.terms

-- those of a problem: in the hard constraints, in the chance constraints, and then in the objective
abbrev pub measured_terms : ProblemTerms → List Term
measured_terms terms =
    flat_map constraint_subterms terms.hards
    ++ (flat_map (λ (chance : ChanceTerms). constraint_subterms chance.conditions) terms.chances
    ++ option_map_or goal_subterms terms.goal [])

-- the greatest size that a term may have
abbrev pub most_size : ℕ
most_size = largest.TERM_SIZE

-- the size of the first term that is too large
abbrev pub first_large : Box → List Term → Option ℕ
first_large root [] = None
first_large root (t ∷ later) = if nat_le (size root t) most_size then first_large root later else Some (size root t)

-- 207: a term of this size is too large
abbrev pub large_excess : ℕ → Excess
large_excess n = excess codes.TERM_SIZE (pos n) (pos most_size)

-- 207: the first term that is too large
abbrev pub term_excess : Box → ProblemTerms → Option Excess
term_excess root terms = option_map large_excess (first_large root (measured_terms terms))

-- the number that is measured of an expected objective: the weight of all scenarios, times one more than the greatest size of its terms
abbrev pub goal_number : Box → ProblemTerms → GoalTerms → ℤ
goal_number root terms goal = terms.whole *ℤ pos (greatest_size root goal.terms + 1)

-- 207: this number passes 2^126; a worst objective is not measured
abbrev pub goal_excess_of : Box → ProblemTerms → GoalTerms → Option Excess
goal_excess_of root terms goal = if goal.worst then None else first_above codes.TERM_SIZE (2 ^ 126) (goal_number root terms goal ∷ [])

-- 207: the objective, where there is one
abbrev pub goal_excess : Box → ProblemTerms → Option Excess
goal_excess root terms = option_and_then (goal_excess_of root terms) terms.goal

-- the first size that passes its limit: those of all terms come before that of the objective
abbrev pub measured_excess : Box → ProblemTerms → Option Excess
measured_excess root terms = or_else (term_excess root terms) (goal_excess root terms)

-- a fault that these sizes give: the first term that is too large, or out of memory
abbrev pub IsSizeFault : Box → List Term → Fault → Type 0
IsSizeFault root terms fault = (fault ≡ NoMemory) ⊎ (option_map (λ n. Limit (large_excess n)) (first_large root terms) ≡ Some fault)

-- what a call that asks for the sizes of these terms answers: something where none is too large, else such a fault
abbrev pub Measures : {A : Type 0} → Box → List Term → Result A Fault → Type 0
Measures root terms (Ok x) = first_large root terms ≡ None
Measures root terms (Err fault) = IsSizeFault root terms fault
