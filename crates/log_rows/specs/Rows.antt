-- The rows of a log as a table: the box with which each node begins and ends, and its depth.
use Rattle.std.specs.Prelude.{◌≡◌, ℕ, ◌+◌, ◌<◌, Bool, true, false, List, [], ◌∷◌, ◌++◌, length, filter, Option, None, Some, slice_index_or}
use Rattle.sopl_base.specs.declared.reason.Side.{Side}
use Rattle.sopl_base.specs.declared.reason.Side.TheVariants.{Le, Ge}
use Rattle.log_rows.specs.declared.rows.Parent.{Parent}
use Rattle.log_rows.specs.declared.rows.Row.{Row}
use Rattle.log_rows.specs.declared.rows.EndLine.{EndLine}
use Rattle.log_rows.specs.declared.rows.EndLine.TheVariants.{Refuted, Split, Point, Unfinished}
use Rattle.box_problem.specs.Box.{Box}
use Rattle.box_problem.specs.Steps.{narrowed, cut_away, after_steps}

-- the row of a node; past the last one a row that is not finished
abbrev pub no_row : Row
no_row = record { parent = None; steps = []; end = Unfinished }

abbrev pub row_at : List Row → ℕ → Row
row_at rows i = slice_index_or rows i no_row

-- the part of a box that a split hands to one of its sides
abbrev pub handed : Box → EndLine → Side → Box
handed b (Split cut) Le = narrowed b cut.cell Le cut.k
handed b (Split cut) Ge = cut_away b cut.cell Le cut.k
handed b other side = b

-- the box with which a node of this parent begins, where `boxes` are those with which the nodes of the rows end
abbrev pub place : Box → List Row → List Box → Option Parent → Box
place root rows boxes None = root
place root rows boxes (Some parent) = handed (slice_index_or boxes parent.node root) (row_at rows parent.node).end parent.side

-- a list with one entry for each row, made from the rows and the entries before it
abbrev pub table_from : {A : Type 0} → (List Row → List A → Row → A) → List Row → List A → List Row → List A
table_from entry before done [] = done
table_from entry before done (row ∷ rows) = table_from entry (before ++ row ∷ []) (done ++ entry before done row ∷ []) rows

-- the boxes with which the nodes end
abbrev pub last_box : Box → List Row → List Box → Row → Box
last_box root before boxes row = after_steps (place root before boxes row.parent) row.steps

unfoldable pub finals : Box → List Row → List Box
finals root rows = table_from (last_box root) [] [] rows

abbrev pub final_of : Box → List Row → ℕ → Box
final_of root rows i = slice_index_or (finals root rows) i root

-- the box with which a node of this parent begins, and the one with which the node of a row begins
abbrev pub box_at : Box → List Row → Option Parent → Box
box_at root rows parent = place root rows (finals root rows) parent

abbrev pub start_of : Box → List Row → ℕ → Box
start_of root rows i = box_at root rows (row_at rows i).parent

-- the depths of the nodes: the root has depth 0
abbrev pub depth_below : List ℕ → Option Parent → ℕ
depth_below depths None = 0
depth_below depths (Some parent) = slice_index_or depths parent.node 0 + 1

unfoldable pub depths : List Row → List ℕ
depths rows = table_from (λ before done row. depth_below done row.parent) [] [] rows

abbrev pub depth_of : List Row → ℕ → ℕ
depth_of rows i = slice_index_or (depths rows) i 0

abbrev pub depth_at : List Row → Option Parent → ℕ
depth_at rows parent = depth_below (depths rows) parent

-- an end is a split
abbrev pub IsSplit : EndLine → Type 0
IsSplit (Refuted reason) = ⊥
IsSplit (Split cut) = Unit {0}
IsSplit Point = ⊥
IsSplit Unfinished = ⊥

-- the rows whose nodes are not split, be they finished or not
abbrev pub is_leaf_end : EndLine → Bool
is_leaf_end (Refuted reason) = true
is_leaf_end (Split cut) = false
is_leaf_end Point = true
is_leaf_end Unfinished = true

abbrev pub leaves : List Row → List Row
leaves rows = filter (λ (row : Row). is_leaf_end row.end) rows

-- the parent is an earlier split, and no earlier row is on this side of it
pub record IsFree (rows : List Row) (i : ℕ) (parent : Parent) : Type 0 where
  pub earlier : parent.node < i
  pub split : IsSplit (row_at rows parent.node).end
  pub untaken : (k : ℕ) → k < i → ¬ (row_at rows k).parent ≡ Some parent

-- a node of this parent may be the next one behind the first i rows: the root is the first, and each other one is a side of
-- a split that was not taken yet
abbrev pub Hangs : List Row → ℕ → Option Parent → Type 0
Hangs rows i None = i ≡ 0
Hangs rows i (Some parent) = IsFree rows i parent

-- each row is the next one behind those before it
abbrev pub AreOrdered : List Row → Type 0
AreOrdered rows = (i : ℕ) → i < length rows → Hangs rows i (row_at rows i).parent
