-- The log of a search.
use Rattle.std.specs.Prelude.{◌≡◌, ◌⊎◌, ℕ, ◌<◌, ◌≤◌, Bool, List, [], ◌∷◌, ◌++◌, length, map, Option, None, Some, IfSome, All, AllPairs, IsPermutation}
use Rattle.std.specs.Io.KnownBytes.{Appends}
use Rattle.sopl_base.specs.declared.reason.Side.TheVariants.{Le, Ge}
use Rattle.sopl_io.specs.Transfer.{AppendsPrefix}
use Rattle.brancher.specs.Rules.{Rule, lower, widest, free}
use Rattle.open_nodes.specs.Takes.{all_nodes}
use Rattle.box_problem.specs.Bits.{bits_in}
use Rattle.box_problem.specs.Box.{Box}
use Rattle.box_problem.specs.BoxProblem.{BoxProblem}
use Rattle.log_rows.specs.declared.rows.EndLine.{EndLine}
use Rattle.log_rows.specs.declared.rows.EndLine.TheVariants.{Refuted, Split, Point, Unfinished}
use Rattle.log_rows.specs.declared.rows.Footer.{Footer}
use Rattle.log_rows.specs.declared.rows.Footer.TheVariants as claims
use Rattle.log_rows.specs.declared.rows.Parent.{Parent}
use Rattle.log_rows.specs.declared.rows.Row.{Row}
use Rattle.log_rows.specs.Rows.{row_at, final_of, depth_of}
use Rattle.log_rows.specs.Made.{AreFinished, Logs, Pending, with_open}
use Rattle.log_rows.specs.Accepted.{Accepted}
use Rattle.log_rows.specs.Lines.{head_line, log_lines, rows_lines, text_of}
use Rattle.log_rows.specs.LogText.{IsLogText}
use Rattle.log_rows.specs.Ranges.{RowFits}
use Rattle.sopl_search.specs.declared.outcome.Found.{Found}
use Rattle.sopl_search.specs.declared.outcome.Outcome.{Outcome}
use Rattle.sopl_search.specs.declared.outcome.Outcome.TheVariants.{Optimal, Infeasible, Bounded}
use Rattle.sopl_search.specs.declared.schedule.Schedule.{Schedule}
use Rattle.sopl_search.specs.Crews.{CrewState, IsCrewRun, IsNextRow}
use Rattle.sopl_search.specs.Ends.{IsPickedCut}
use Rattle.sopl_search.specs.Schedules.{named_seat, named_seats}
use Rattle.sopl_search.specs.Outcomes.{EndsBy, found_of, value_of}

-- what a log claims of an outcome
abbrev pub footer_of : Outcome → Footer
footer_of (Optimal value cells) = claims.Optimal value
footer_of Infeasible = claims.Infeasible
footer_of (Bounded found bound) = claims.Bounded (value_of found) bound

-- a box that is split is cut as is picked at its depth, where a brancher of this rule is asked, or none is
abbrev pub SplitsPicked : Option Rule → ℕ → Box → EndLine → Type 0
SplitsPicked asked depth b (Refuted reason) = Unit {0}
SplitsPicked asked depth b (Split cut) = (low_first : Bool) × IsPickedCut asked depth b cut.cell cut.k low_first
SplitsPicked asked depth b Point = Unit {0}
SplitsPicked asked depth b Unfinished = Unit {0}

-- and so it is in each row
abbrev pub AllSplitPicked : Option Rule → Box → List Row → Type 0
AllSplitPicked asked root rows = (i : ℕ) → i < length rows → SplitsPicked asked (depth_of rows i) (final_of root rows i) (row_at rows i).end

-- no brancher is asked, or one of a rule that has the low half searched first
abbrev pub IsLowFirst : Option Rule → Type 0
IsLowFirst None = Unit {0}
IsLowFirst (Some lower) = Unit {0}
IsLowFirst (Some widest) = Unit {0}
IsLowFirst (Some free) = ⊥

-- by the number of the parent, and of one parent the low side first
abbrev pub StandsBefore : Option Parent → Option Parent → Type 0
StandsBefore None None = ⊥
StandsBefore None (Some q) = Unit {0}
StandsBefore (Some p) None = ⊥
StandsBefore (Some p) (Some q) = (p.node < q.node) ⊎ ((p.node ≡ q.node) × (p.side ≡ Le) × (q.side ≡ Ge))

-- a row before this one is the low side of a split
pub record HasLowBefore (rows : List Row) (i n : ℕ) : Type 0 where
  pub row : ℕ
  pub before : row < i
  pub parent : (row_at rows row).parent ≡ Some (record { node = n; side = Le })

-- of two sides of one split the low one stands first: before each row that is a high side stands the low side of the same split
abbrev pub LowStandsFirst : List Row → Type 0
LowStandsFirst rows = (i n : ℕ) → i < length rows → (row_at rows i).parent ≡ Some (record { node = n; side = Ge }) → HasLowBefore rows i n

-- the point that an outcome tells, with its value
abbrev pub told_point : Outcome → Option Found
told_point (Optimal value cells) = Some (found_of value cells)
told_point Infeasible = None
told_point (Bounded found bound) = found

-- some row ends as a point: its cells are those that were found, and their value is the one that was found
pub record IsPointRow (problem : BoxProblem) (rows : List Row) (found : Found) : Type 0 where
  pub row : ℕ
  pub exists : row < length rows
  pub is_point : (row_at rows row).end ≡ Point
  pub same_cells : (final_of problem.root rows row).lows ≡ found.cells
  pub same_value : problem.value found.cells ≡ found.value

-- a search that gives up has finished as many nodes as its budget allows
abbrev pub SpendsAll : Outcome → ℕ → ℕ → Type 0
SpendsAll (Optimal value cells) nodes budget = Unit {0}
SpendsAll Infeasible nodes budget = Unit {0}
SpendsAll (Bounded found bound) nodes budget = nodes ≡ budget

-- how a search is done: how many seats there are, in which order they take steps, the rule of the brancher that is asked, if any, and how many nodes may be
-- finished
pub record SearchPlan : Type 0 where
  pub seats : ℕ
  pub order : Option ℕ
  pub asked : Option Rule
  pub budget : ℕ

abbrev pub plan_of : Schedule → Option Rule → ℕ → SearchPlan
plan_of schedule asked budget = record { seats = schedule.seats; order = schedule.order; asked = asked; budget = budget }

-- rows that so many seats finished by this plan, with the state in which they leave the search
pub record IsPlannedRun (problem : BoxProblem) (plan : SearchPlan) (state : CrewState) : Type 0 where
  pub run : IsCrewRun problem plan.seats (named_seats plan.seats plan.order (length state.rows)) state
  pub logs : Logs problem state.rows (all_nodes state.seats) state.best
  pub are_finished : AreFinished state.rows
  pub within : length state.rows ≤ plan.budget
  pub splits : AllSplitPicked plan.asked problem.root state.rows
  pub low_first : plan.seats ≡ 1 → IsLowFirst plan.asked → LowStandsFirst state.rows

-- how a search ends that leaves these nodes open, by their parents: it went on until no node was open, or as many were finished as the budget allows, and always
-- to that number where it gives up; and its outcome is the one that follows from the best point and from the boxes of these nodes
pub record IsPlannedEnd (problem : BoxProblem) (plan : SearchPlan) (state : CrewState) (outcome : Outcome) (opens : List Pending) : Type 0 where
  pub are_open : IsPermutation (all_nodes state.seats) opens
  pub in_order : AllPairs (λ (x y : Pending). StandsBefore x.parent y.parent) opens
  pub done : (opens ≡ []) ⊎ (length state.rows ≡ plan.budget)
  pub spent : SpendsAll outcome (length state.rows) plan.budget
  pub best : Option Found
  pub best_is : value_of best ≡ state.best
  pub ends : EndsBy problem best (map (λ (x : Pending). x.at) opens) outcome

-- these rows are the tree of a search by a plan: the nodes in the order in which they were finished, each by the seat whose turn it was, and behind them those that
-- are left open, by their parents; each step and end is right against the best value of its moment, and the whole is a log that is accepted. Without a
-- brancher no node lies deeper than the bits of the root, and none ever lies deeper than 1536; what the outcome found is the point of a row
pub record IsTree (problem : BoxProblem) (plan : SearchPlan) (outcome : Outcome) (rows : List Row) : Type 0 where
  pub state : CrewState
  pub opens : List Pending
  pub planned : IsPlannedRun problem plan state
  pub end : IsPlannedEnd problem plan state outcome opens
  pub logs : Logs problem state.rows opens state.best
  pub rows_are : rows ≡ with_open state.rows opens
  pub fit : All RowFits rows
  pub accepted : Accepted problem rows (footer_of outcome)
  pub by_bits : plan.asked ≡ None → (i : ℕ) → i < length rows → depth_of rows i ≤ bits_in problem.root
  pub shallow : (i : ℕ) → i < length rows → depth_of rows i ≤ 1536
  pub found : IfSome (told_point outcome) (IsPointRow problem rows)

-- these bytes are the lines of such a tree, with what is claimed of the outcome behind them
pub record IsSearchLog (problem : BoxProblem) (plan : SearchPlan) (outcome : Outcome) (bytes : List ℕ) : Type 0 where
  pub rows : List Row
  pub tree : IsTree problem plan outcome rows
  pub text : bytes ≡ text_of (log_lines rows (footer_of outcome))
  pub is_text : IsLogText rows (footer_of outcome) bytes

-- a sink took the whole log of a search with this outcome
pub record IsLogged (problem : BoxProblem) (plan : SearchPlan) (outcome : Outcome) (before now : Option (List ℕ)) : Type 0 where
  pub bytes : List ℕ
  pub is_log : IsSearchLog problem plan outcome bytes
  pub took : Appends before now bytes

-- the first line of a log and the lines of its first rows
abbrev pub begun_text : List Row → List ℕ
begun_text rows = text_of (head_line ∷ rows_lines 0 rows)

-- where the log of a search was cut short: within the rows of the nodes that were finished; within these and the row of the next node, which is the one that the
-- seat takes whose turn it is; or within these, the rows of the open nodes and the claim, where the search was at its end
pub data IsCutShort (problem : BoxProblem) (plan : SearchPlan) (state : CrewState) (before now : Option (List ℕ)) : Type 0 where
  in_rows : AppendsPrefix before now (begun_text state.rows) → IsCutShort problem plan state before now
  in_next_row : (row : Row) → IsNextRow problem (named_seat plan.seats plan.order (length state.rows)) state row → length state.rows < plan.budget
      → AppendsPrefix before now (begun_text (state.rows ++ row ∷ [])) → IsCutShort problem plan state before now
  at_end : (outcome : Outcome) (opens : List Pending) → IsPlannedEnd problem plan state outcome opens
      → AppendsPrefix before now (text_of (log_lines (with_open state.rows opens) (footer_of outcome))) → IsCutShort problem plan state before now

-- or a prefix of a log whose first rows, none or more, are those of a search by the plan; what it took ends where the search was stopped
pub record IsPrefixLogged (problem : BoxProblem) (plan : SearchPlan) (before now : Option (List ℕ)) : Type 0 where
  pub state : CrewState
  pub more : List Row
  pub footer : Footer
  pub planned : IsPlannedRun problem plan state
  pub is_text : IsLogText (state.rows ++ more) footer (text_of (log_lines (state.rows ++ more) footer))
  pub took : AppendsPrefix before now (text_of (log_lines (state.rows ++ more) footer))
  pub cut_short : IsCutShort problem plan state before now
