-- What an accepted log claims is true of all policies.
use Rattle.std.proofs.Common.{◌≡◌, List, Some, None, refl, subst}
use Rattle.sopl_ast.specs.Cells.{cells, policy_at}
use Rattle.sopl_ast.specs.Unfolding.{problem_of}
use Rattle.sopl_ast.specs.Whole.{ModelTree}
use Rattle.sopl_ast.specs.Instances.{Problem}
use Rattle.box_problem.specs.BoxProblem.{BoxProblem}
use Rattle.log_rows.specs.declared.rows.Row.{Row}
use Rattle.log_rows.specs.declared.rows.Footer.{Footer}
use Rattle.log_rows.specs.declared.rows.Footer.TheVariants.{Optimal, Infeasible, Bounded}
use Rattle.log_rows.specs.Accepted.{Accepted, Holds}
use Rattle.log_rows.proofs.Truth.{logs_are_true}
use Rattle.term_problem.specs.Search.{problem_over}
use Rattle.term_program.specs.Stated.{box_problem_of}
use Rattle.term_program.specs.declared.program.Program.{Program}
use Rattle.compile_laws.specs.WellMade.{IsUnfolded, searched}
use Rattle.compile_laws.proofs.Lifted.{bounds_hold, reached_is_worth, unbeaten_is_best, unreached_is_none}
use Rattle.compile_laws.proofs.WellMade.{texts_are_lawful}
use Rattle.answer_texts.specs.Logs.{searched_problem}
use Rattle.answer_texts.specs.Solving.{IsProgramOf}
use Rattle.answer_check.specs.Claims.{HoldsOfPolicies}

-- the program's problem is that of the text's policies
pub searched_is : (problem : Problem) (program : Program) → IsProgramOf problem program → box_problem_of program ≡ searched_problem problem
unfolding box_problem_of searched_problem
searched_is problem program is = λ i. problem_over (is.root i) (is.terms i)

text_searched : (model : ModelTree) → searched_problem (problem_of model) ≡ searched model
unfolding searched_problem
text_searched model = refl

-- what holds of all points holds of all policies
holds_of_policies : (model : ModelTree) (claim : Footer) → IsUnfolded model → Holds (searched model) claim → HoldsOfPolicies (problem_of model) claim
holds_of_policies model (Optimal value) unfolded holds =
    (policy_at (cells (problem_of model)) holds.0.0, unbeaten_is_best model value holds.0.0 unfolded holds.0.1 holds.1)
holds_of_policies model Infeasible unfolded holds = unreached_is_none model unfolded holds
holds_of_policies model (Bounded None bound) unfolded holds = bounds_hold model bound unfolded holds
holds_of_policies model (Bounded (Some value) bound) unfolded holds =
    ((policy_at (cells (problem_of model)) holds.0.0, reached_is_worth model value holds.0.0 unfolded holds.0.1), bounds_hold model bound unfolded holds.1)

pub claims_are_true : (model : ModelTree) (rows : List Row) (claim : Footer) → IsUnfolded model → Accepted (searched_problem (problem_of model)) rows claim
    → HoldsOfPolicies (problem_of model) claim
claims_are_true model rows claim unfolded accepted =
    holds_of_policies model claim unfolded
    (logs_are_true (searched model) rows claim (texts_are_lawful model unfolded.from unfolded.passes)
    (subst (λ (p : BoxProblem). Accepted p rows claim) (text_searched model) accepted))
