-- The log of a search of a problem, and what a sink took of it.
use Rattle.std.specs.Prelude.{◌≡◌, ℕ, ℤ, List, [], Option, option_map}
use Rattle.std.specs.Io.KnownBytes.{Keeps, Appends}
use Rattle.sopl_io.specs.Stock.{with_name}
use Rattle.sopl_ast.specs.Cells.{cells, policy_at}
use Rattle.sopl_ast.specs.Instances.{Problem}
use Rattle.sopl_ast.specs.Policies.{Policy}
use Rattle.box_problem.specs.Box.{points}
use Rattle.box_problem.specs.BoxProblem.{BoxProblem}
use Rattle.box_problem.specs.Covers.{nodes_for}
use Rattle.log_rows.specs.declared.rows.Footer.{Footer}
use Rattle.sopl_search.specs.Logged.{IsPrefixLogged, IsSearchLog, SearchPlan, footer_of, told_point}
use Rattle.sopl_search.specs.declared.outcome.Found.{Found}
use Rattle.sopl_search.specs.declared.outcome.Outcome.{Outcome}
use Rattle.term_problem.specs.Search.{problem_over}
use Rattle.compile_laws.specs.Root.{root_box}
use Rattle.compile_laws.specs.Whole.{problem_terms}
use Rattle.answer_lines.specs.AnswerData.{Valued}

-- the problem over boxes that a search of the problem's points sees
unfoldable pub searched_problem : Problem → BoxProblem
searched_problem problem = problem_over (root_box (cells problem)) (problem_terms problem)

-- how many nodes a search of the problem's points has at most
unfoldable pub most_nodes : Problem → ℕ
most_nodes problem = nodes_for (points (root_box (cells problem)))

-- a policy with its value, and the policy of a point with the point's value
abbrev pub with_value : Policy → ℤ → Valued
with_value policy value = record { policy = policy; value = value }

abbrev pub valued_at : Problem → Found → Valued
valued_at problem found = with_value (policy_at (cells problem) found.cells) found.value

-- these bytes are the log of a search of the problem by a plan, which ends with this claim; and this policy with its value, if any, is
-- that of the point which the search tells, by its tree the point of a row
pub record IsLogOf (problem : Problem) (plan : SearchPlan) (claim : Footer) (found : Option Valued) (log : List ℕ) : Type 0 where
  pub outcome : Outcome
  pub claimed : footer_of outcome ≡ claim
  pub found_is : option_map (valued_at problem) (told_point outcome) ≡ found
  pub is_log : IsSearchLog (searched_problem problem) plan outcome log

-- what a sink tells: the bytes that it took since it was begun last, and the names with which it was begun
pub record SinkState : Type 0 where
  pub taken : Option (List ℕ)
  pub names : Option (List (List ℕ))

abbrev pub told : Option (List ℕ) → Option (List (List ℕ)) → SinkState
told taken names = record { taken = taken; names = names }

-- of a sink that tells both
abbrev pub state_of : {Sink : Type 0} → (Sink → Option (List ℕ)) → (Sink → Option (List (List ℕ))) → Sink → SinkState
state_of taken names sink = told (taken sink) (names sink)

-- a sink was not used
pub record IsUnused (old new : SinkState) : Type 0 where
  pub taken : new.taken ≡ old.taken
  pub names : new.names ≡ old.names

-- a sink was begun with a name, and then took these bytes
abbrev pub emptied : Option (List ℕ) → Option (List ℕ)
emptied taken = option_map (λ _. []) taken

pub record Wrote (name log : List ℕ) (old new : SinkState) : Type 0 where
  pub names : new.names ≡ with_name old.names name
  pub took : Appends (emptied old.taken) new.taken log

-- a sink took nothing, or a prefix of a log whose first rows are those of a search of the problem by a plan
pub data TookPrefix (problem : Problem) (plan : SearchPlan) (old : Option (List ℕ)) (new : Option (List ℕ)) : Type 0 where
  nothing : Keeps old new → TookPrefix problem plan old new
  prefix : IsPrefixLogged (searched_problem problem) plan old new → TookPrefix problem plan old new

-- a sink was begun with a name, and then took such a prefix
pub record WrotePrefix (problem : Problem) (plan : SearchPlan) (name : List ℕ) (old new : SinkState) : Type 0 where
  pub names : new.names ≡ with_name old.names name
  pub took : TookPrefix problem plan (emptied old.taken) new.taken
