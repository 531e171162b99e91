-- What a step of a seat does.
use Rattle.std.specs.Prelude.{◌≡◌, ◌⊎◌, ℕ, ◌+◌, Bool, List, [], ◌∷◌, ◌++◌, length, Option, Some, IfSome, if◌then◌else◌}
use Rattle.sopl_base.specs.declared.reason.Side.{Side}
use Rattle.sopl_base.specs.declared.reason.Side.TheVariants.{Le, Ge}
use Rattle.sopl_base.specs.declared.reason.Step.{Step}
use Rattle.std.specs.Io.KnownBytes.{Keeps as KeepsBytes}
use Rattle.sopl_io.specs.Gathered.{GathersAll}
use Rattle.sopl_io.specs.Transfer.{AppendsPrefix}
use Rattle.brancher.specs.declared.choice.Event.{Event}
use Rattle.brancher.specs.declared.choice.Event.TheVariants as events
use Rattle.brancher.specs.Heard.{with_event_told}
use Rattle.brancher.specs.Rules.{Rule}
use Rattle.box_problem.specs.Box.{Box}
use Rattle.box_problem.specs.BoxProblem.{BoxProblem}
use Rattle.box_problem.specs.Rightness.{Appended}
use Rattle.box_problem.specs.Steps.{after_steps}
use Rattle.log_rows.specs.declared.rows.Row.{Row}
use Rattle.log_rows.specs.Lines.{row_lines, text_of}
use Rattle.log_rows.specs.Made.{Pending}
use Rattle.log_rows.specs.Ranges.{RowFits}
use Rattle.log_rows.specs.Rows.{depth_at}
use Rattle.open_nodes.specs.declared.halving.Halving.{Halving}
use Rattle.open_nodes.specs.declared.seats.OpenNode.{OpenNode}
use Rattle.open_nodes.specs.declared.split.SplitNode.{SplitNode}
use Rattle.open_nodes.specs.Takes.{Gives, Takes, lists_of}
use Rattle.open_nodes.specs.Ways.{IsRow, final_box, given_box, given_row, node_number, split_cut, split_depth}
use Rattle.sopl_search.specs.declared.ending.NodeEnd.{NodeEnd}
use Rattle.sopl_search.specs.declared.ending.NodeEnd.TheVariants.{Refuted, Split, Point}
use Rattle.sopl_search.specs.declared.frontier.Frontier.{Frontier}
use Rattle.sopl_search.specs.declared.frontier.WorkedNode.{WorkedNode}
use Rattle.sopl_search.specs.declared.outcome.Found.{Found}
use Rattle.sopl_search.specs.Crews.{IsCrewStep, IsNextRow}
use Rattle.sopl_search.specs.Ends.{Ends}
use Rattle.sopl_search.specs.Events.{IsEventOf}
use Rattle.sopl_search.specs.Lines.{cell_above, line_of, new_row, parent_above, pending_of, split_above}
use Rattle.sopl_search.specs.Outcomes.{found_at, value_of}
use Rattle.sopl_search.specs.Frontiers.{IsOnRows, Keeps, state_of}

-- a seat has taken a node, and nothing else is done
pub record HasTaken (old new : Frontier) (seat : ℕ) (node : OpenNode) : Type 0 where
  pub takes : Takes (lists_of old.seats) (lists_of new.seats) seat node
  pub counted : new.open_count + 1 ≡ old.open_count
  pub walk : new.walk ≡ old.walk
  pub finished : new.finished ≡ old.finished
  pub best : new.best ≡ old.best
  pub gather : new.gather ≡ old.gather

-- it was worked on: these steps lead from the box that it began with to the one in the store, which ends so
pub record IsWorked (problem : BoxProblem) (asked : Option Rule) (rows : List Row) (seat : ℕ) (old new : Frontier) (worked : WorkedNode) : Type 0 where
  pub takes : Takes (lists_of old.seats) (lists_of new.seats) seat worked.node
  pub counted : new.open_count + 1 ≡ old.open_count
  pub finished : new.finished ≡ old.finished
  pub best : new.best ≡ old.best
  pub gather : new.gather ≡ old.gather
  pub walk : IsOnRows problem.root rows new.walk
  pub depth : worked.depth ≡ depth_at rows (parent_above worked.node)
  pub steps : Appended problem (value_of old.best) (pending_of problem.root worked.node).at [] worked.steps new.walk.store.box
  pub ends : Ends problem (value_of old.best) asked worked.depth new.walk.store.box worked.end

-- the row of a node that was worked on
abbrev pub worked_row : WorkedNode → Row
worked_row worked = new_row (parent_above worked.node) worked.steps (line_of worked.end)

-- its lines came behind what was kept for a sink, and nothing else is done
pub record IsPut (old new : Frontier) (row : Row) (before now : Option (List ℕ)) : Type 0 where
  pub lines : GathersAll before old.gather.kept now new.gather.kept (text_of (row_lines old.finished row))
  pub walk : new.walk ≡ old.walk
  pub seats : new.seats ≡ old.seats
  pub open_count : new.open_count ≡ old.open_count
  pub finished : new.finished ≡ old.finished
  pub best : new.best ≡ old.best

-- a split node was made of these parts
pub record IsMade (made : SplitNode) (above : Option SplitNode) (side : Side) (node depth : ℕ) (steps : List Step) (cut : Halving) : Type 0 where
  pub number : node_number made ≡ node
  pub depth_is : split_depth made ≡ depth
  pub cut_is : split_cut made ≡ cut
  pub box_is : (root : Box) → final_box root made ≡ after_steps (given_box root side above) steps
  pub row : (rows : List Row) → node ≡ length rows → IfSome above (λ split. IsRow rows split) → IsRow (rows ++ given_row side above steps cut ∷ []) made

-- the two sides of a split, the one that is searched first behind the other one
abbrev pub IsSide : SplitNode → Side → OpenNode → Type 0
IsSide split side node = (node.side ≡ side) × (split_above node ≡ Some split)

pub record GivesHalves (old new : List (List OpenNode)) (seat : ℕ) (split : SplitNode) (low_first : Bool) : Type 0 where
  pub older : OpenNode
  pub newer : OpenNode
  pub gives : Gives old new seat older newer
  pub older_is : IsSide split (if low_first then Ge else Le) older
  pub newer_is : IsSide split (if low_first then Le else Ge) newer

-- a seat has got the two sides of a split
pub record GivesSplit (old new : Frontier) (seat : ℕ) (worked : WorkedNode) (cut : Halving) (low_first : Bool) : Type 0 where
  pub split : SplitNode
  pub made : IsMade split (split_above worked.node) worked.node.side old.finished worked.depth worked.steps cut
  pub gives : GivesHalves (lists_of old.seats) (lists_of new.seats) seat split low_first
  pub counted : new.open_count ≡ old.open_count + 2

-- a node that ends so has left its sides to a seat, or its point as the best one, or nothing
abbrev pub EndsAs : BoxProblem → Frontier → Frontier → ℕ → WorkedNode → NodeEnd → Type 0
EndsAs problem old new seat worked (Refuted reason) = (new.seats ≡ old.seats) × (new.open_count ≡ old.open_count) × (new.best ≡ old.best)
EndsAs problem old new seat worked (Split cut low_first) = GivesSplit old new seat worked cut low_first × (new.best ≡ old.best)
EndsAs problem old new seat worked Point =
    (new.seats ≡ old.seats) × (new.open_count ≡ old.open_count) × (new.best ≡ Some (found_at problem old.walk.store.box))

pub record IsEnded (problem : BoxProblem) (old new : Frontier) (seat : ℕ) (worked : WorkedNode) (end : NodeEnd) : Type 0 where
  pub ends : EndsAs problem old new seat worked end
  pub finished : new.finished ≡ old.finished + 1

-- what a brancher is told of a node
abbrev pub event_told : OpenNode → NodeEnd → Event
event_told node (Refuted reason) = events.Closed (cell_above node)
event_told node (Split cut low_first) = events.Split cut.cell cut.k
event_told node Point = events.Found

-- a seat finished a node: the rows have one more, whose lines came behind what was kept for a sink; and the brancher that is asked, if any, was told its event
pub record IsStepped (problem : BoxProblem) (asked : Option Rule) (rows : List Row) (seat : ℕ) (old new : Frontier) (before now : Option (List ℕ))
    (heard_before heard_now : Option (Option (List Event))) : Type 0 where
  pub row : Row
  pub keeps : Keeps problem asked (rows ++ row ∷ []) new
  pub step : IsCrewStep problem seat (state_of problem.root rows old) (state_of problem.root (rows ++ row ∷ []) new)
  pub lines : GathersAll before old.gather.kept now new.gather.kept (text_of (row_lines (length rows) row))
  pub event : Event
  pub event_is : IsEventOf rows row.parent row.end event
  pub told : heard_now ≡ with_event_told heard_before event

-- or it did not: of the lines of a node with the next number, which is the one that the seat takes, a sink took a prefix behind what was kept for it; and where it
-- took any byte in this step, the row of these lines is the one that the step would have added
pub record IsBrokenStep (problem : BoxProblem) (rows : List Row) (seat : ℕ) (old : Frontier) (before now : Option (List ℕ)) : Type 0 where
  pub node : Pending
  pub others : List (List Pending)
  pub takes : Takes (state_of problem.root rows old).seats others seat node
  pub row : Row
  pub parent : row.parent ≡ node.parent
  pub fits : RowFits row
  pub took : AppendsPrefix before now (old.gather.kept ++ text_of (row_lines (length rows) row))
  pub right : KeepsBytes before now ⊎ IsNextRow problem seat (state_of problem.root rows old) row
