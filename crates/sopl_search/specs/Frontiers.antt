-- What a search has found, and what it has left to do.
use Rattle.std.specs.Prelude.{◌≡◌, ◌⊎◌, ℕ, ◌+◌, ◌<◌, ◌≤◌, ℤ, List, [], ◌∷◌, length, map, replicate, reverse, slice_set, Option, None, Some, IfSome, All}
use Rattle.std.specs.List.{AllByRecursion}
use Rattle.sopl_base.specs.declared.reason.Side.TheVariants.{Le, Ge}
use Rattle.sopl_io.specs.Gathered.{GathersAll}
use Rattle.brancher.specs.Rules.{Rule}
use Rattle.box_problem.specs.Bits.{bits_in}
use Rattle.box_problem.specs.Box.{Box, Inside}
use Rattle.box_problem.specs.BoxProblem.{BoxProblem}
use Rattle.box_problem.specs.Opens.{AreOpen}
use Rattle.log_rows.specs.declared.rows.Row.{Row}
use Rattle.log_rows.specs.Lines.{head_line, rows_lines, text_of}
use Rattle.log_rows.specs.Made.{AreFinished, AreShallow, Logs, Pending}
use Rattle.log_rows.specs.Ranges.{RowFits}
use Rattle.log_rows.specs.Rows.{depth_of, final_of, row_at}
use Rattle.open_nodes.specs.declared.seats.OpenNode.{OpenNode}
use Rattle.open_nodes.specs.declared.split.SplitNode.{SplitNode}
use Rattle.open_nodes.specs.declared.walk.BoxWalk.{BoxWalk}
use Rattle.open_nodes.specs.Remade.{AreBelow}
use Rattle.open_nodes.specs.Takes.{all_nodes, lists_of}
use Rattle.open_nodes.specs.Walks.{StandsAt, marked}
use Rattle.open_nodes.specs.Ways.{IsRow, node_number, split_depth}
use Rattle.sopl_search.specs.declared.frontier.Frontier.{Frontier}
use Rattle.sopl_search.specs.declared.outcome.Found.{Found}
use Rattle.sopl_search.specs.Crews.{CrewState, IsCrewRun}
use Rattle.sopl_search.specs.Schedules.{named_seats}
use Rattle.sopl_search.specs.Lines.{pending_of, split_above}
use Rattle.sopl_search.specs.Logged.{AllSplitPicked, IsLowFirst, IsPointRow, LowStandsFirst, SearchPlan}
use Rattle.sopl_search.specs.Outcomes.{IsGood, value_of}

-- all open nodes, in the order of the seats; with the boxes that they begin with; and these boxes
abbrev pub nodes_of : Frontier → List OpenNode
nodes_of frontier = all_nodes (lists_of frontier.seats)

abbrev pub pendings : Box → List OpenNode → List Pending
pendings root nodes = map (pending_of root) nodes

abbrev pub opens : Box → Frontier → List Pending
opens root frontier = pendings root (nodes_of frontier)

abbrev pub boxes : List Pending → List Box
boxes nodes = map (λ (x : Pending). x.at) nodes

-- what was found satisfies, and these boxes are open
pub record IsSound (problem : BoxProblem) (best : Option Found) (finished : ℕ) (bs : List Box) : Type 0 where
  pub are_open : AreOpen problem (value_of best) finished bs
  pub good : IfSome best (IsGood problem)

abbrev pub Stands : BoxProblem → Frontier → Type 0
Stands problem frontier = IsSound problem frontier.best frontier.finished (boxes (opens problem.root frontier))

-- an open node is the root, or a side of a split whose way these rows tell, and which lies as deep as it keeps
abbrev pub IsSplitRow : List Row → Option SplitNode → Type 0
IsSplitRow rows None = Unit {0}
IsSplitRow rows (Some split) = IsRow rows split × (split_depth split ≡ depth_of rows (node_number split))

abbrev pub AreRowNodes : List Row → List OpenNode → Type 0
AreRowNodes rows nodes = AllByRecursion (λ (node : OpenNode). IsSplitRow rows (split_above node)) nodes

-- some row is the low side of this split
pub record HasLowRow (rows : List Row) (n : ℕ) : Type 0 where
  pub row : ℕ
  pub exists : row < length rows
  pub parent : (row_at rows row).parent ≡ Some (record { node = n; side = Le })

-- some open node is
abbrev pub HasLowNode : List Pending → ℕ → Type 0
HasLowNode [] n = ⊥
HasLowNode (x ∷ nodes) n = (x.parent ≡ Some (record { node = n; side = Le })) ⊎ HasLowNode nodes n

-- the low side of each split whose high side is open is a row, or is open and newer
abbrev pub LowsAreNewer : List Row → List Pending → Type 0
LowsAreNewer rows [] = Unit {0}
LowsAreNewer rows (x ∷ nodes) =
    ((n : ℕ) → x.parent ≡ Some (record { node = n; side = Ge }) → HasLowRow rows n ⊎ HasLowNode nodes n) × LowsAreNewer rows nodes

-- a box stands on a way of rows
pub record IsOnRows (root : Box) (rows : List Row) (walk : BoxWalk) : Type 0 where
  pub at : StandsAt root (final_of root rows) walk
  pub below : AreBelow (length rows) (reverse walk.here.items)

-- these rows are those of a search of so many seats that has finished so many nodes, leaves these open, and found this best point
pub record AreKept (problem : BoxProblem) (asked : Option Rule) (seats : ℕ) (rows : List Row) (finished : ℕ) (nodes : List Pending) (best : Option Found) : Type 0 where
  pub logs : Logs problem rows nodes (value_of best)
  pub counted : length rows ≡ finished
  pub are_finished : AreFinished rows
  pub splits : AllSplitPicked asked problem.root rows
  pub fit : All RowFits rows
  pub by_bits : asked ≡ None → AreShallow bits_in (bits_in problem.root) rows nodes
  pub shallow : AreShallow bits_in 1536 rows nodes
  pub low_first : seats ≡ 1 → IsLowFirst asked → LowStandsFirst rows × LowsAreNewer rows nodes
  pub found : IfSome best (IsPointRow problem rows)

-- and the open nodes and the box of a search are theirs
pub record Keeps (problem : BoxProblem) (asked : Option Rule) (rows : List Row) (frontier : Frontier) : Type 0 where
  pub kept : AreKept problem asked (length frontier.seats.seats.items) rows frontier.finished (opens problem.root frontier) frontier.best
  pub ways : AreRowNodes rows (nodes_of frontier)
  pub walk : IsOnRows problem.root rows frontier.walk
  pub counted : length (nodes_of frontier) ≡ frontier.open_count
  pub few : frontier.open_count ≤ frontier.finished + 1

-- a search and rows stand for a state of a crew
abbrev pub state_of : Box → List Row → Frontier → CrewState
state_of root rows frontier = record { seats = map (pendings root) (lists_of frontier.seats); rows = rows; best = value_of frontier.best }

-- a search of a problem, with the rows of some nodes
pub record IsSearchOf (problem : BoxProblem) (asked : Option Rule) (frontier : Frontier) : Type 0 where
  pub stands : Stands problem frontier
  pub rows : List Row
  pub keeps : Keeps problem asked rows frontier

-- a box may go to an open node of a search with these rows
pub record IsEnterable (problem : BoxProblem) (rows : List Row) (walk : BoxWalk) (node : OpenNode) : Type 0 where
  pub nodes : List Pending
  pub best : Option ℤ
  pub logs : Logs problem rows nodes best
  pub way : IsSplitRow rows (split_above node)
  pub at : IsOnRows problem.root rows walk

-- and to each of these, whose boxes lie in the root
pub record AreEnterable (problem : BoxProblem) (rows : List Row) (walk : BoxWalk) (nodes : List OpenNode) : Type 0 where
  pub best : Option ℤ
  pub logs : Logs problem rows (pendings problem.root nodes) best
  pub ways : AreRowNodes rows nodes
  pub inside : AllByRecursion (λ (node : OpenNode). Inside (pending_of problem.root node).at problem.root) nodes
  pub at : IsOnRows problem.root rows walk

-- it has gone there
pub record IsAtNode (problem : BoxProblem) (rows : List Row) (walk : BoxWalk) (node : OpenNode) : Type 0 where
  pub at : IsOnRows problem.root rows walk
  pub box : walk.store.box ≡ (pending_of problem.root node).at

-- a search at first: the first of so many seats has the root, no node is finished and nothing is found; no byte is kept
abbrev pub root_open : OpenNode
root_open = record { below = None; side = Le }

abbrev pub first_lists : ℕ → List (List OpenNode)
first_lists seats = slice_set (replicate seats []) 0 (root_open ∷ [])

abbrev pub StandsAtRoot : Box → BoxWalk → Type 0
StandsAtRoot root walk = (walk.here.items ≡ []) × (marked walk.store.marks ≡ root ∷ [])

pub record IsBegun (root : Box) (seats : ℕ) (frontier : Frontier) : Type 0 where
  pub lists : lists_of frontier.seats ≡ first_lists seats
  pub one_open : frontier.open_count ≡ 1
  pub none_finished : frontier.finished ≡ 0
  pub none_found : frontier.best ≡ None
  pub none_kept : frontier.gather.kept ≡ []
  pub walk : StandsAtRoot root frontier.walk

-- a search that runs: the rows are those that so many steps of a plan have finished, and what a sink took since the search began, with what is kept for it, are the
-- first line of a log and their lines
pub record IsRunning (problem : BoxProblem) (plan : SearchPlan) (frontier : Frontier) (before now : Option (List ℕ)) : Type 0 where
  pub stands : Stands problem frontier
  pub rows : List Row
  pub keeps : Keeps problem plan.asked rows frontier
  pub run : IsCrewRun problem plan.seats (named_seats plan.seats plan.order (length rows)) (state_of problem.root rows frontier)
  pub exist : length frontier.seats.seats.items ≡ plan.seats
  pub within : length rows ≤ plan.budget
  pub lines : GathersAll before [] now frontier.gather.kept (text_of (head_line ∷ rows_lines 0 rows))
