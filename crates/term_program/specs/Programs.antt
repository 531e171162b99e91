-- Which problem in terms a program is.
use Rattle.std.specs.Prelude.{◌≡◌, ℕ, pos, ℤ, int_le, Bool, true, if◌then◌else◌, List, [], length, IfSome, IfNone, IsTrue, Option, option_map}
use Rattle.sopl_base.specs.declared.direction.Direction.{Direction}
use Rattle.sopl_base.specs.declared.direction.Direction.TheVariants.{Minimize, Maximize, Nothing}
use Rattle.sopl_base.specs.declared.interval.Interval.{Interval}
use Rattle.box_problem.specs.Box.{Box, with_low, with_high}
use Rattle.term_language.specs.Ends.{Ends, ends}
use Rattle.std.specs.Option.{option_map_or}
use Rattle.term_language.specs.Forms.{Form, number_form}
use Rattle.term_problem.specs.Objective.{expected_form}
use Rattle.term_problem.specs.Problems.{GoalTerms, ProblemTerms, IsProblem}
use Rattle.term_nodes.specs.Things.{Thing}
use Rattle.term_goals.specs.Goals.{goal_of}
use Rattle.term_goals.specs.declared.goal.Goal.{Goal}
use Rattle.term_program.specs.Drafts.{AreAtomsOf, IsDraft, IsGoalOf, draft_problem, draft_root, draft_things}
use Rattle.term_program.specs.Globals.{AreTermsOf}
use Rattle.term_program.specs.Mentions.{AreMentioned, HasList}
use Rattle.term_program.specs.declared.program.Program.{Program}

-- the box of all points
abbrev pub root_in : Program → Box
root_in p = draft_root p.draft

-- what stands at each number
abbrev pub things_in : Program → List Thing
things_in p = draft_things p.draft

-- a problem with this objective, or with none
abbrev pub with_goal : ProblemTerms → Option GoalTerms → ProblemTerms
with_goal terms goal = record terms { goal = goal }

abbrev pub problem_in : Program → ProblemTerms
problem_in p = with_goal (draft_problem p.draft) (option_map (goal_of (things_in p)) p.goal)

-- the linear form of the sum of an expected objective; 0 where there is no objective
abbrev pub summed_form : Box → ProblemTerms → Form
summed_form root terms = option_map_or (λ (goal : GoalTerms). expected_form root terms.weights goal.terms) terms.goal (number_form (pos 0))

-- what a scenario of this weight counts for a condition that is False, or not
abbrev pub kept : Bool → ℤ → ℤ
kept closed weight = if closed then pos 0 else weight

-- the better end of an interval is not better than a value
abbrev pub no_better : Direction → ℤ → ℤ → Bool
no_better Minimize end v = int_le v end
no_better Maximize end v = int_le end v
no_better Nothing end v = true

-- a program as it is made
pub record IsMade (p : Program) : Type 0 where
  pub draft : IsDraft p.draft
  pub problem : IsProblem (problem_in p)
  pub goal : IfSome p.goal (IsGoalOf p.draft)
  pub atoms : IfSome p.goal (λ (g : Goal). AreAtomsOf p.draft g p.atoms.items)
  pub no_atoms : IfNone p.goal (p.atoms.items ≡ [])
  pub mentioned : AreMentioned p.draft p.goal p.atoms.items p.mentioned
  pub globals : AreTermsOf (things_in p) (length (things_in p)) p.globals

-- the cells that a condition, or a term, mentions are kept
abbrev pub IsListed : Program → ℕ → Type 0
IsListed p cond = IsTrue (HasList p.mentioned.conditions cond)

abbrev pub IsListedTerm : Program → ℕ → Type 0
IsListedTerm p term = IsTrue (HasList p.mentioned.terms term)

-- the box with another interval for one cell
abbrev pub with_interval : Box → ℕ → ℤ → ℤ → Box
with_interval b cell lo hi = with_high (with_low b cell lo) cell hi

-- an interval, as the rules on boxes have it
abbrev pub ends_in : Interval → Ends
ends_in i = ends i.lo i.hi
