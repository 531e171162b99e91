-- What is answered of a problem, and which log goes with it.
use Rattle.std.specs.Prelude.{◌≡◌, ℕ, ◌<◌, ℤ, Bool, true, false, codes, string_bytes, List, Option, Some, None, IfSome, option_map}
use Rattle.std.specs.Io.KnownBytes.{Appends}
use Rattle.serde_json.specs.Data.{Data}
use Rattle.sopl_ast.specs.Cells.{cells, IsPoint, policy_at}
use Rattle.sopl_ast.specs.Instances.{Problem}
use Rattle.sopl_ast.specs.Optimal.{IsOptimal, IsInfeasible}
use Rattle.sopl_ast.specs.Policies.{Policy}
use Rattle.log_rows.specs.declared.rows.Footer.TheVariants as claim
use Rattle.sopl_search.specs.Logged.{SearchPlan}
use Rattle.sopl_search.specs.declared.outcome.Found.{Found}
use Rattle.sopl_search.specs.declared.outcome.Outcome.{Outcome}
use Rattle.sopl_search.specs.declared.outcome.Outcome.TheVariants as outcome
use Rattle.answer_texts.specs.Models.{IsSolvable}
use Rattle.answer_lines.specs.AnswerData.{Valued, line_of}
use Rattle.scen_accept.specs.Stated.{model_in, problem_in}
use Rattle.scen_accept.specs.declared.accepted.AcceptedProblem.{AcceptedProblem}
use Rattle.answer_texts.specs.Bounds.{IsBounded}
use Rattle.answer_texts.specs.Telling.{bounded_told, found_value, infeasible_told, optimal_told}
use Rattle.answer_texts.specs.Logs.{IsLogOf, most_nodes, valued_at, with_value, SinkState, Wrote, WrotePrefix}
use Rattle.answer_texts.specs.declared.command.Detail.{Detail}
use Rattle.answer_texts.specs.declared.solve_answer.Answer.{Answer}
use Rattle.answer_texts.specs.declared.solve_answer.Answer.TheVariants.{Settled, Cut}

-- a line settles a problem, and this is the log of the search
pub data IsSettledBy (detail : Detail) (problem : Problem) (plan : SearchPlan) (log : List ℕ) : List ℕ → Type 0 where
  -- this policy of it is optimal and has this value
  optimal : (policy : Policy) (value : ℤ) → IsOptimal problem policy value → IsLogOf problem plan (claim.Optimal value) (Some (with_value policy value)) log
      → IsSettledBy detail problem plan log (line_of (optimal_told detail problem policy value))
  -- no policy of it satisfies
  infeasible : IsInfeasible problem → IsLogOf problem plan claim.Infeasible None log
      → IsSettledBy detail problem plan log (line_of (infeasible_told detail problem))

-- a line tells a bound, and this is the log of the search, which ended with as many nodes as the budget allows, and fewer than it may have
pub data IsBoundedBy (detail : Detail) (problem : Problem) (plan : SearchPlan) (log : List ℕ) : List ℕ → Type 0 where
  bounded : (found : Option Valued) (bound : ℤ) → IsBounded problem found bound → plan.budget < most_nodes problem
      → IsLogOf problem plan (claim.Bounded (found_value found) bound) found log
      → IsBoundedBy detail problem plan log (line_of (bounded_told detail problem found bound))

abbrev pub IsAnsweredBy : Detail → Problem → SearchPlan → List ℕ → Answer → Type 0
IsAnsweredBy detail problem plan log (Settled line) = IsSettledBy detail problem plan log (string_bytes line)
IsAnsweredBy detail problem plan log (Cut line) = IsBoundedBy detail problem plan log (string_bytes line)

-- an answer, and the sink was begun with a name and took the log that goes with it
pub record Answers (detail : Detail) (problem : Problem) (plan : SearchPlan) (name : List ℕ) (old new : SinkState) (answer : Answer) : Type 0 where
  pub log : List ℕ
  pub answered : IsAnsweredBy detail problem plan log answer
  pub wrote : Wrote name log old new

-- an answer, and a sink took the log that goes with it
pub record Searched (detail : Detail) (problem : Problem) (plan : SearchPlan) (old new : Option (List ℕ)) (answer : Answer) : Type 0 where
  pub log : List ℕ
  pub answered : IsAnsweredBy detail problem plan log answer
  pub took : Appends old new log

-- the text is solved, and the sink was begun with a name and took a prefix of the log
pub record IsCutOff (stated : AcceptedProblem) (plan : SearchPlan) (name : List ℕ) (old new : SinkState) : Type 0 where
  pub solvable : IsSolvable (model_in stated)
  pub wrote : WrotePrefix (problem_in stated) plan name old new

-- The answer of an outcome.

abbrev pub outcome_data : Detail → Problem → Outcome → Data
outcome_data detail problem (outcome.Optimal value point) = optimal_told detail problem (policy_at (cells problem) point) value
outcome_data detail problem outcome.Infeasible = infeasible_told detail problem
outcome_data detail problem (outcome.Bounded found bound) = bounded_told detail problem (option_map (valued_at problem) found) bound

abbrev pub is_settled : Outcome → Bool
is_settled (outcome.Optimal value point) = true
is_settled outcome.Infeasible = true
is_settled (outcome.Bounded found bound) = false

-- an answer is that of an outcome
abbrev pub IsAnswerOf : Detail → Problem → Outcome → Answer → Type 0
IsAnswerOf detail problem o (Settled line) = (is_settled o ≡ true) × (string_bytes line ≡ line_of (outcome_data detail problem o))
IsAnswerOf detail problem o (Cut line) = (is_settled o ≡ false) × (string_bytes line ≡ line_of (outcome_data detail problem o))

-- what an outcome found is a point of the problem
abbrev pub FindsPoint : Problem → Outcome → Type 0
FindsPoint problem (outcome.Optimal value point) = IsPoint (cells problem) point
FindsPoint problem outcome.Infeasible = Unit {0}
FindsPoint problem (outcome.Bounded found bound) = IfSome found (λ (f : Found). IsPoint (cells problem) f.cells)
