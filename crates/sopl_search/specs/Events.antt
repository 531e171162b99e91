-- What a brancher is told of the nodes of a search.
use Rattle.std.specs.Prelude.{◌≡◌, ℕ, List, Option, None, Some}
use Rattle.brancher.specs.declared.choice.Event.{Event}
use Rattle.brancher.specs.declared.choice.Event.TheVariants as events
use Rattle.log_rows.specs.declared.rows.EndLine.{EndLine}
use Rattle.log_rows.specs.declared.rows.EndLine.TheVariants.{Refuted, Split, Point, Unfinished}
use Rattle.log_rows.specs.declared.rows.Parent.{Parent}
use Rattle.log_rows.specs.declared.rows.Row.{Row}
use Rattle.log_rows.specs.Rows.{row_at}

-- the cell that a split cuts, and the one that is cut by the split above a node of this parent
abbrev pub cell_cut : EndLine → Option ℕ
cell_cut (Refuted reason) = None
cell_cut (Split cut) = Some cut.cell
cell_cut Point = None
cell_cut Unfinished = None

abbrev pub cut_above : List Row → Option Parent → Option ℕ
cut_above rows None = None
cut_above rows (Some parent) = cell_cut (row_at rows parent.node).end

-- the event of a node that ends so after these rows: its box was cut; it was closed, where its parent cut this cell; or its box is a point that was found
abbrev pub IsEventOf : List Row → Option Parent → EndLine → Event → Type 0
IsEventOf rows parent (Refuted reason) event = event ≡ events.Closed (cut_above rows parent)
IsEventOf rows parent (Split cut) event = event ≡ events.Split cut.cell cut.k
IsEventOf rows parent Point event = event ≡ events.Found
IsEventOf rows parent Unfinished event = ⊥
