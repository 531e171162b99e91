-- The terms and the cells of an objective.
use Rattle.std.specs.Prelude.{◌≡◌, ◌++◌, ℕ, ◌<◌, Bool, false, List, Option, Some, length, map, slice_get}
use Rattle.std.specs.List.{flat_map}
use Rattle.std.specs.List.Sorted.{IsStrictlySortedBy}
use Rattle.std.specs.Option.{option_and_then, option_map_or}
use Rattle.std.specs.Ordering.{nat_cmp}
use Rattle.sopl_base.specs.declared.reason.Reason.TheVariants.{Bound}
use Rattle.term_language.specs.Mentions.{mentions}
use Rattle.term_language.specs.Terms.{Term}
use Rattle.term_goals.specs.declared.sums.Atom.{Atom}
use Rattle.term_nodes.specs.Things.{term_at}
use Rattle.term_problem.specs.Problems.{GoalTerms, ProblemTerms}
use Rattle.term_problem.specs.Reasons.{reason_mentions}
use Rattle.term_program.specs.declared.program.Program.{Program}
use Rattle.term_program.specs.Programs.{problem_in, root_in, things_in}
use Rattle.prop_shave.specs.Probes.{HasAll}
use Rattle.prop_shave.specs.GoalSums.{touched_by}
use Rattle.prop_chance.specs.UpToDate.{part_numbers}
use Rattle.prop_goal.specs.declared.goal_cells.GoalCells.{GoalCells}

-- whether the worst scenario counts; without an objective it does not
abbrev pub is_worst : ProblemTerms → Bool
is_worst terms = option_map_or (λ (goal : GoalTerms). goal.worst) terms.goal false

-- the objective's term in a scenario, where there is an objective
abbrev pub term_in : ProblemTerms → ℕ → Option Term
term_in terms scenario = option_and_then (λ (goal : GoalTerms). slice_get goal.terms scenario) terms.goal

-- all cells that the first parts of an objective mention are among these
abbrev pub ArePartsWithin : Program → List Atom → ℕ → List ℕ → Type 0
ArePartsWithin program atoms count cells =
    (number : ℕ) (a : Atom) → number < count → slice_get atoms number ≡ Some a
    → HasAll cells (mentions (root_in program) (term_at (things_in program) a.term))

-- the cells that parts of an objective mention
abbrev pub parts_mention : Program → List Atom → List ℕ
parts_mention program atoms = flat_map (λ (a : Atom). mentions (root_in program) (term_at (things_in program) a.term)) atoms

-- and those that its terms or its parts mention
abbrev pub goal_mentions : Program → List Atom → List ℕ
goal_mentions program atoms = reason_mentions (root_in program) (problem_in program) Bound ++ parts_mention program atoms

-- the cells are all that the objective's terms and its parts mention, and no others, ascending, each with the parts that mention it
pub record AreGoalCells (g : GoalCells) (program : Program) (atoms : List Atom) : Type 0 where
  pub all : HasAll g.cells.items (reason_mentions (root_in program) (problem_in program) Bound)
  pub within : ArePartsWithin program atoms (length atoms) g.cells.items
  pub only : HasAll (goal_mentions program atoms) g.cells.items
  pub touched : map part_numbers g.touched.items ≡ map (touched_by (root_in program) (things_in program) atoms) g.cells.items
  pub ascend : IsStrictlySortedBy nat_cmp g.cells.items
