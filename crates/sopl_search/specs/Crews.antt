-- A search by several seats, step by step.
use Rattle.std.specs.Prelude.{◌≡◌, ◌⊎◌, ℕ, ◌<◌, ◌≤◌, ℤ, List, [], ◌∷◌, ◌++◌, length, replicate, slice_set, Option, None}
use Rattle.sopl_base.specs.declared.reason.Side.TheVariants.{Le, Ge}
use Rattle.sopl_base.specs.declared.reason.Step.{Step}
use Rattle.box_problem.specs.Box.{Box}
use Rattle.box_problem.specs.BoxProblem.{BoxProblem}
use Rattle.box_problem.specs.Steps.{after_steps}
use Rattle.log_rows.specs.declared.rows.EndLine.{EndLine}
use Rattle.log_rows.specs.declared.rows.EndLine.TheVariants.{Refuted, Split, Point, Unfinished}
use Rattle.log_rows.specs.declared.rows.Row.{Row}
use Rattle.log_rows.specs.LogLaws.{half, row_of}
use Rattle.log_rows.specs.Made.{IsFinished, Made, Logs, Pending, best_after}
use Rattle.open_nodes.specs.Takes.{Gives, Takes, all_nodes}

-- for each seat its open nodes from the oldest to the newest, the rows of the finished nodes, and the best value
pub record CrewState : Type 0 where
  pub seats : List (List Pending)
  pub rows : List Row
  pub best : Option ℤ

-- at first the first seat has the root, and nothing else is there
abbrev pub root_node : BoxProblem → Pending
root_node problem = record { parent = None; at = problem.root }

abbrev pub first_state : BoxProblem → ℕ → CrewState
first_state problem seats = record { seats = slice_set (replicate seats []) 0 (root_node problem ∷ []); rows = []; best = None }

-- the sides of a split become the newest nodes of a seat, in either order; another end gives none
abbrev pub GivesSides : ℕ → Box → EndLine → List (List Pending) → List (List Pending) → ℕ → Type 0
GivesSides n b (Refuted reason) old new seat = new ≡ old
GivesSides n b (Split cut) old new seat = Gives old new seat (half n b cut Ge) (half n b cut Le) ⊎ Gives old new seat (half n b cut Le) (half n b cut Ge)
GivesSides n b Point old new seat = new ≡ old
GivesSides n b Unfinished old new seat = ⊥

-- the row that a step of a seat adds: the seat exists, and takes its newest node, or else the oldest one of the first seat that has one. The row finishes this
-- node by steps and an end that are right against the best value
pub record IsNextRow (problem : BoxProblem) (seat : ℕ) (state : CrewState) (row : Row) : Type 0 where
  pub node : Pending
  pub others : List (List Pending)
  pub exists : seat < length state.seats
  pub takes : Takes state.seats others seat node
  pub parent : row.parent ≡ node.parent
  pub made : Made problem state.best node.at row (after_steps node.at row.steps)
  pub finished : IsFinished row.end

-- a step of a seat that exists: it takes its newest node, or else the oldest one of the first seat that has one. The node is finished by steps and an
-- end that are right against the best value, and gets the next number
pub record IsCrewStep (problem : BoxProblem) (seat : ℕ) (old new : CrewState) : Type 0 where
  pub node : Pending
  pub others : List (List Pending)
  pub steps : List Step
  pub end : EndLine
  pub exists : seat < length old.seats
  pub takes : Takes old.seats others seat node
  pub made : Made problem old.best node.at (row_of node steps end) (after_steps node.at steps)
  pub finished : IsFinished end
  pub gives : GivesSides (length old.rows) (after_steps node.at steps) end others new.seats seat
  pub rows : new.rows ≡ old.rows ++ row_of node steps end ∷ []
  pub best : new.best ≡ best_after problem old.best end (after_steps node.at steps)

-- steps of these seats, one after another, lead from the first state to this one
pub data IsCrewRun (problem : BoxProblem) (seats : ℕ) : List ℕ → CrewState → Type 0 where
  begun : IsCrewRun problem seats [] (first_state problem seats)
  one_more : (named : List ℕ) (seat : ℕ) (before now : CrewState) → IsCrewRun problem seats named before → IsCrewStep problem seat before now
      → IsCrewRun problem seats (named ++ seat ∷ []) now

-- behind any steps of any seats, one or more, the rows are those of a search, and what the seats have are all its open nodes, each once
abbrev pub RunsAreLogs : Type 0
RunsAreLogs =
    (problem : BoxProblem) (seats : ℕ) (named : List ℕ) (state : CrewState) → 1 ≤ seats → IsCrewRun problem seats named state
    → Logs problem state.rows (all_nodes state.seats) state.best
