-- What a log is answered: that it is accepted, or its first wrong line.
use Rattle.std.specs.Prelude.{◌≡◌, ◌⊎◌, ℕ, ◌+◌, ◌<◌, ◌≤◌, List, length, take, slice_get, Some}
use Rattle.sopl_base.specs.declared.reason.Step.{Step}
use Rattle.box_problem.specs.BoxProblem.{BoxProblem}
use Rattle.box_problem.specs.Rightness.{IsRight}
use Rattle.box_problem.specs.Steps.{after_steps}
use Rattle.log_rows.specs.declared.rows.Row.{Row}
use Rattle.log_rows.specs.declared.rows.Footer.{Footer}
use Rattle.log_rows.specs.Lines.{rows_lines}
use Rattle.log_rows.specs.Rows as rows
use Rattle.log_rows.specs.Accepted as log
use Rattle.log_check.specs.declared.verdict.Verdict.{Verdict}
use Rattle.log_check.specs.declared.verdict.Verdict.TheVariants.{Accepted, Rejected}

-- the number of the line at which the node of a row begins; behind the last row, that of the footer
abbrev pub first_line : List Row → ℕ → ℕ
first_line list i = 2 + length (rows_lines 0 (take i list))

-- a line of a node is a step that is not right on the box that the steps before it leave
pub record IsWrongStep (problem : BoxProblem) (list : List Row) (footer : Footer) (node line : ℕ) : Type 0 where
  pub k : ℕ
  pub step : Step
  pub exists : node < length list
  pub is : slice_get (rows.row_at list node).steps k ≡ Some step
  pub line_is : line ≡ first_line list node + 1 + k
  pub wrong : ¬ IsRight problem (log.claimed footer) (after_steps (rows.start_of problem.root list node) (take k (rows.row_at list node).steps)) step

-- a line of a node is an end that is not right
pub record IsWrongEnd (problem : BoxProblem) (list : List Row) (footer : Footer) (node line : ℕ) : Type 0 where
  pub exists : node < length list
  pub line_is : line ≡ first_line list node + 1 + length (rows.row_at list node).steps
  pub wrong : ¬ log.RightEnd problem footer (rows.final_of problem.root list node) list node (rows.row_at list node).end

-- the last line is a claim that is not right; its node is the number of nodes
pub record IsWrongFooter (problem : BoxProblem) (list : List Row) (footer : Footer) (node line : ℕ) : Type 0 where
  pub node_is : node ≡ length list
  pub line_is : line ≡ first_line list (length list)
  pub wrong : ¬ log.RightFooter problem list footer

-- a line that is not right, and its node
abbrev pub IsWrongLine : BoxProblem → List Row → Footer → ℕ → ℕ → Type 0
IsWrongLine problem list footer node line =
    IsWrongStep problem list footer node line ⊎ (IsWrongEnd problem list footer node line ⊎ IsWrongFooter problem list footer node line)

-- no line before it is wrong
pub record IsFirstWrong (problem : BoxProblem) (list : List Row) (footer : Footer) (node line : ℕ) : Type 0 where
  pub wrong : IsWrongLine problem list footer node line
  pub first : (n l : ℕ) → IsWrongLine problem list footer n l → line ≤ l

-- a log is accepted, or its first wrong line is told
abbrev pub IsVerdict : BoxProblem → List Row → Footer → Verdict → Type 0
IsVerdict problem list footer Accepted = log.Accepted problem list footer
IsVerdict problem list footer (Rejected node line) = IsFirstWrong problem list footer node line
