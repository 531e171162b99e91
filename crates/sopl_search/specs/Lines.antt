-- The rows of nodes, and the order of those that are not finished.
use Rattle.std.specs.Prelude.{ℕ, ◌+◌, ◌*◌, List, [], Option, option_map, Some, None}
use Rattle.std.specs.declared.alloc.Global.{Global}
use Rattle.std.specs.declared.rc.Rc.{Rc}
use Rattle.sopl_base.specs.declared.reason.Side.{Side}
use Rattle.sopl_base.specs.declared.reason.Side.TheVariants.{Le, Ge}
use Rattle.sopl_base.specs.declared.reason.Step.{Step}
use Rattle.box_problem.specs.Box.{Box}
use Rattle.log_rows.specs.declared.rows.Parent.{Parent}
use Rattle.log_rows.specs.declared.rows.Row.{Row}
use Rattle.log_rows.specs.declared.rows.EndLine.{EndLine}
use Rattle.log_rows.specs.declared.rows.EndLine.TheVariants as lines
use Rattle.log_rows.specs.Made.{Pending}
use Rattle.open_nodes.specs.declared.seats.OpenNode.{OpenNode}
use Rattle.open_nodes.specs.declared.split.SplitNode.{SplitNode}
use Rattle.open_nodes.specs.Ways.{given_box, given_parent, node_number, row_cut, split_cut}
use Rattle.sopl_search.specs.declared.ending.NodeEnd.{NodeEnd}
use Rattle.sopl_search.specs.declared.ending.NodeEnd.TheVariants.{Refuted, Split, Point}

abbrev pub line_of : NodeEnd → EndLine
line_of (Refuted reason) = lines.Refuted reason
line_of (Split cut low_first) = lines.Split (row_cut cut)
line_of Point = lines.Point

-- the split of which an open node is a side; and the parent that its row tells
abbrev pub split_above : OpenNode → Option SplitNode
split_above node = option_map (λ (split : Rc SplitNode Global). split.value) node.below

abbrev pub parent_above : OpenNode → Option Parent
parent_above node = given_parent node.side (split_above node)

-- the open node with the box that it begins with
abbrev pub pending_of : Box → OpenNode → Pending
pending_of root node = record { parent = parent_above node; at = given_box root node.side (split_above node) }

-- the cell that the parent of a node cut
abbrev pub cell_above : OpenNode → Option ℕ
cell_above node = option_map (λ split. (split_cut split).cell) (split_above node)

-- the row of a node of this parent
abbrev pub new_row : Option Parent → List Step → EndLine → Row
new_row parent steps end = record { parent = parent; steps = steps; end = end }

-- the row of a node that is not finished
abbrev pub open_line : Option Parent → Row
open_line parent = new_row parent [] lines.Unfinished

-- a number by which open nodes are sorted: by the number of the parent, and of one parent the low side first
abbrev pub side_key : Side → ℕ
side_key Le = 0
side_key Ge = 1

abbrev pub split_key : Side → Option SplitNode → ℕ
split_key side None = 0
split_key side (Some split) = 2 * node_number split + side_key side

abbrev pub order_key : OpenNode → ℕ
order_key node = split_key node.side (split_above node)
