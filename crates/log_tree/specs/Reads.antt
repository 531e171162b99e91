-- What the lines of a log are read as: the rows and the claim, or the code and the line of the first mistake.
use Rattle.std.specs.Prelude.{◌≡◌, ℕ, ◌+◌, ◌<◌, ◌≤◌, List, [], ◌∷◌, ◌++◌, length, Option, None, Some}
use Rattle.sopl_base.specs.declared.reason.Step.{Step}
use Rattle.sopl_base.specs.declared.fault.Fault.{Fault}
use Rattle.sopl_base.specs.declared.fault.Fault.TheVariants.{Text, Limit, NoMemory}
use Rattle.sopl_base.specs.declared.codes.TheConstants as codes
use Rattle.log_rows.specs.declared.rows.Parent.{Parent}
use Rattle.log_rows.specs.declared.rows.Row.{Row}
use Rattle.log_rows.specs.declared.rows.EndLine.{EndLine}
use Rattle.log_rows.specs.declared.rows.Footer.{Footer}
use Rattle.log_rows.specs.Rows.{Hangs, depth_at}
use Rattle.log_rows.specs.Accepted.{greatest_depth}
use Rattle.log_rows.specs.Lines.{head_line, step_line, end_line, footer_line}
use Rattle.log_rows.specs.Ranges.{StepFits, EndFits, FooterFits}
use Rattle.log_tree.specs.declared.reading.Heading.{Heading}
use Rattle.log_tree.specs.LineOf.{HeadingFits, heading_line}
use Rattle.log_tree.specs.Cutting.{lines_in}

-- how reading ends: with rows and a claim, or with a code and the number of a line
pub data LogOutcome : Type 0 where
  read : List Row → Footer → LogOutcome
  refused : ℕ → ℕ → LogOutcome

-- a row of which the end is not read yet
pub record BegunRow : Type 0 where
  pub parent : Option Parent
  pub steps : List Step

abbrev pub begun : Option Parent → BegunRow
begun parent = record { parent = parent; steps = [] }

abbrev pub with_step : BegunRow → Step → BegunRow
with_step part step = record { parent = part.parent; steps = part.steps ++ step ∷ [] }

abbrev pub ended_row : BegunRow → EndLine → Row
ended_row part end = record { parent = part.parent; steps = part.steps; end = end }

-- a node that may be the next one behind these rows
pub record IsNextNode (rows : List Row) (heading : Heading) : Type 0 where
  pub number : heading.number ≡ length rows
  pub hangs : Hangs rows (length rows) heading.parent

-- no node, no step, no end, no claim has this line
abbrev pub IsNoNode : List ℕ → Type 0
IsNoNode line = (heading : Heading) → HeadingFits heading → ¬ (heading_line heading ≡ line)

abbrev pub IsNoStep : List ℕ → Type 0
IsNoStep line = (step : Step) → StepFits step → ¬ (step_line step ≡ line)

abbrev pub IsNoEnd : List ℕ → Type 0
IsNoEnd line = (end : EndLine) → EndFits end → ¬ (end_line end ≡ line)

abbrev pub IsNoClaim : List ℕ → Type 0
IsNoClaim line = (footer : Footer) → FooterFits footer → ¬ (footer_line footer ≡ line)

-- behind these rows, and a row of which the end is not read yet if there is one, these lines, of which the first has this
-- number, are read so
pub data ReadsFrom : List Row → Option BegunRow → ℕ → List (List ℕ) → LogOutcome → Type 0 where
  missing : (rows : List Row) (part : Option BegunRow) (n : ℕ) → ReadsFrom rows part n [] (refused codes.LOG_LINE n)
  no_node : (rows : List Row) (n : ℕ) (line : List ℕ) (lines : List (List ℕ)) → IsNoNode line → (0 < length rows → IsNoClaim line)
      → ReadsFrom rows None n (line ∷ lines) (refused codes.LOG_LINE n)
  misplaced : (rows : List Row) (n : ℕ) (line : List ℕ) (lines : List (List ℕ)) (heading : Heading) → HeadingFits heading → heading_line heading ≡ line
      → ¬ IsNextNode rows heading → ReadsFrom rows None n (line ∷ lines) (refused codes.NODE_PLACE n)
  too_deep : (rows : List Row) (n : ℕ) (line : List ℕ) (lines : List (List ℕ)) (heading : Heading) → HeadingFits heading → heading_line heading ≡ line
      → IsNextNode rows heading → greatest_depth < depth_at rows heading.parent → ReadsFrom rows None n (line ∷ lines) (refused codes.NODE_DEPTH n)
  node : (rows : List Row) (n : ℕ) (line : List ℕ) (lines : List (List ℕ)) (heading : Heading) (out : LogOutcome) → HeadingFits heading → heading_line heading ≡ line
      → IsNextNode rows heading → depth_at rows heading.parent ≤ greatest_depth → ReadsFrom rows (Some (begun heading.parent)) (n + 1) lines out → ReadsFrom rows None n (line ∷ lines) out
  step : (rows : List Row) (part : BegunRow) (n : ℕ) (line : List ℕ) (lines : List (List ℕ)) (step : Step) (out : LogOutcome) → StepFits step → step_line step ≡ line
      → ReadsFrom rows (Some (with_step part step)) (n + 1) lines out → ReadsFrom rows (Some part) n (line ∷ lines) out
  ended : (rows : List Row) (part : BegunRow) (n : ℕ) (line : List ℕ) (lines : List (List ℕ)) (end : EndLine) (out : LogOutcome) → EndFits end → end_line end ≡ line
      → ReadsFrom (rows ++ ended_row part end ∷ []) None (n + 1) lines out → ReadsFrom rows (Some part) n (line ∷ lines) out
  no_line : (rows : List Row) (part : BegunRow) (n : ℕ) (line : List ℕ) (lines : List (List ℕ)) → IsNoStep line → IsNoEnd line → ReadsFrom rows (Some part) n (line ∷ lines) (refused codes.LOG_LINE n)
  claim : (rows : List Row) (n : ℕ) (line : List ℕ) (footer : Footer) → 0 < length rows → FooterFits footer → footer_line footer ≡ line
      → ReadsFrom rows None n (line ∷ []) (read rows footer)
  too_long : (rows : List Row) (n : ℕ) (line next : List ℕ) (lines : List (List ℕ)) (footer : Footer) → 0 < length rows → FooterFits footer → footer_line footer ≡ line
      → ReadsFrom rows None n (line ∷ next ∷ lines) (refused codes.LOG_LINE (n + 1))

-- all lines of a text are read so
pub data ReadsLines : List (List ℕ) → LogOutcome → Type 0 where
  empty : ReadsLines [] (refused codes.LOG_LINE 1)
  no_head : (line : List ℕ) (lines : List (List ℕ)) → ¬ (line ≡ head_line) → ReadsLines (line ∷ lines) (refused codes.LOG_LINE 1)
  headed : (lines : List (List ℕ)) (out : LogOutcome) → ReadsFrom [] None 2 lines out → ReadsLines (head_line ∷ lines) out

abbrev pub IsReading : List ℕ → LogOutcome → Type 0
IsReading bytes out = ReadsLines (lines_in bytes) out

-- an outcome is this fault; where memory runs out there is none
abbrev pub RefusedAs : (LogOutcome → Type 0) → Fault → Type 0
RefusedAs P (Text refusal) = P (refused refusal.code refusal.at)
RefusedAs P (Limit excess) = ⊥
RefusedAs P NoMemory = Unit {0}

abbrev pub row_with_steps : Option Parent → List Step → BegunRow
row_with_steps parent steps = record { parent = parent; steps = steps }
