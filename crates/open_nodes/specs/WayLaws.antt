-- What holds of ways.
use Rattle.std.specs.Prelude.{◌≡◌, ℕ, ◌<◌, ℤ, List, ◌∷◌, ◌++◌, length, Option, Some}
use Rattle.sopl_base.specs.declared.reason.Side.{Side}
use Rattle.box_problem.specs.Box.{Box}
use Rattle.box_problem.specs.BoxProblem.{BoxProblem}
use Rattle.log_rows.specs.Made.{Logs, Pending}
use Rattle.log_rows.specs.declared.rows.Row.{Row}
use Rattle.log_rows.specs.Rows.{box_at, final_of, row_at, Hangs}
use Rattle.open_nodes.specs.declared.split.SplitNode.{SplitNode}
use Rattle.open_nodes.specs.Ways.{CutsWell, IsRow, node_number, side_box, ups}
use Rattle.open_nodes.specs.Walks.{AreNamed}
use Rattle.open_nodes.specs.Remade.{Descends, split_numbers}

-- the box that a way leads to is the one with which the open node begins that hangs there behind the rows
abbrev pub WaysAreRows : Type 0
WaysAreRows =
    (root : Box) (rows : List Row) (split : SplitNode) (side : Side) → ((i : ℕ) → i < length rows → Hangs rows i (row_at rows i).parent)
    → IsRow rows split → side_box root split side ≡ box_at root rows (Some (record { node = node_number split; side = side }))

-- the way to an open node of a search is known, by the boxes of its rows: all its steps and cuts cut, and the node_number of each split is that of its box
abbrev pub WaysAreKnown : Type 0
WaysAreKnown =
    (problem : BoxProblem) (rows : List Row) (opens : List Pending) (best : Option ℤ) (split : SplitNode) → Logs problem rows opens best → IsRow rows split
    → CutsWell problem.root split × AreNamed problem.root (final_of problem.root rows) (split ∷ ups split)

-- a way stays one of rows where rows come behind
abbrev pub WaysGoOn : Type 0
WaysGoOn = (rows more : List Row) (split : SplitNode) → IsRow rows split → IsRow (rows ++ more) split

-- the numbers along a way of rows descend, as those of the splits must that a box is to make no end again in vain
abbrev pub WaysDescend : Type 0
WaysDescend =
    (rows : List Row) (split : SplitNode) → ((i : ℕ) → i < length rows → Hangs rows i (row_at rows i).parent) → IsRow rows split
    → Descends (split_numbers (split ∷ ups split))
