-- The boxes along a way of splits, and the rows that the splits stand for.
use Rattle.std.specs.Prelude.{◌≡◌, ℕ, ◌<◌, List, [], ◌∷◌, length, Option, None, Some}
use Rattle.sopl_base.specs.declared.reason.Side.TheVariants.{Le}
use Rattle.sopl_base.specs.declared.reason.Side.{Side}
use Rattle.sopl_base.specs.declared.reason.Step.{Step}
use Rattle.box_problem.specs.Box.{Box}
use Rattle.box_problem.specs.Steps.{after_step, after_steps, IsCut}
use Rattle.log_rows.specs.declared.rows.Cut as rows
use Rattle.log_rows.specs.declared.rows.Parent.{Parent}
use Rattle.log_rows.specs.declared.rows.Row.{Row}
use Rattle.log_rows.specs.declared.rows.EndLine.TheVariants as lines
use Rattle.log_rows.specs.Rows.{handed, row_at}
use Rattle.open_nodes.specs.declared.halving.Halving.{Halving}
use Rattle.open_nodes.specs.declared.split.SplitNode.{SplitNode, SplitNode', Held-SplitNode-above, None', Some'}

abbrev pub node_number : SplitNode → ℕ
node_number (SplitNode' above side node depth steps cut) = node

abbrev pub split_depth : SplitNode → ℕ
split_depth (SplitNode' above side node depth steps cut) = depth

-- a cut as a log tells it
abbrev pub row_cut : Halving → rows.Cut
row_cut cut = record { cell = cut.cell; k = cut.k }

abbrev pub split_cut : SplitNode → Halving
split_cut (SplitNode' above side node depth steps cut) = cut

-- the box with which a node ends that was split, the box that a side of it begins with, and the one with which a node begins below what is above it
abbrev mutual
  pub final_box : Box → SplitNode → Box
  final_box root (SplitNode' above side node depth steps cut) = after_steps (above_box root side above) steps

  pub above_box : Box → Side → Held-SplitNode-above → Box
  above_box root side None' = root
  above_box root side (Some' p n) = handed (final_box root n) (lines.Split (row_cut (split_cut n))) side

abbrev pub side_box : Box → SplitNode → Side → Box
side_box root split side = handed (final_box root split) (lines.Split (row_cut (split_cut split))) side

-- the parent that a row of this node tells
abbrev pub parent_of : Side → Held-SplitNode-above → Option Parent
parent_of side None' = None
parent_of side (Some' p n) = Some (record { node = node_number n; side = side })

-- the parent of a row, by the split above as it was given
abbrev pub given_parent : Side → Option SplitNode → Option Parent
given_parent side None = None
given_parent side (Some split) = Some (record { node = node_number split; side = side })

-- and the box with which a node begins below that one
abbrev pub given_box : Box → Side → Option SplitNode → Box
given_box root side None = root
given_box root side (Some split) = side_box root split side

-- the row that tells of a split
abbrev pub split_row : Side → Held-SplitNode-above → List Step → Halving → Row
split_row side above steps cut = record { parent = parent_of side above; steps = steps; end = lines.Split (row_cut cut) }

abbrev pub given_row : Side → Option SplitNode → List Step → Halving → Row
given_row side above steps cut = record { parent = given_parent side above; steps = steps; end = lines.Split (row_cut cut) }

-- a split and those above it are rows
abbrev mutual
  pub IsRow : List Row → SplitNode → Type 0
  IsRow rows (SplitNode' above side node depth steps cut) =
      (node < length rows) × (row_at rows node ≡ split_row side above steps cut) × AreRows rows above

  pub AreRows : List Row → Held-SplitNode-above → Type 0
  AreRows rows None' = Unit {0}
  AreRows rows (Some' p n) = IsRow rows n

-- the splits above a split, from the nearest one up
abbrev mutual
  pub ups : SplitNode → List SplitNode
  ups (SplitNode' above side node depth steps cut) = held_ups above

  pub held_ups : Held-SplitNode-above → List SplitNode
  held_ups None' = []
  held_ups (Some' p n) = n ∷ ups n

-- steps that each cut the box which those before them leave
abbrev pub StepsCut : Box → List Step → Type 0
StepsCut b [] = Unit {0}
StepsCut b (s ∷ steps) = IsCut b s.cell s.side s.k × StepsCut (after_step b s) steps

-- the steps and the cuts of a split and of those above it cut their boxes
abbrev mutual
  pub CutsWell : Box → SplitNode → Type 0
  CutsWell root (SplitNode' above side node depth steps cut) =
      StepsCut (above_box root side above) steps × IsCut (after_steps (above_box root side above) steps) cut.cell Le cut.k × AllCutWell root above

  pub AllCutWell : Box → Held-SplitNode-above → Type 0
  AllCutWell root None' = Unit {0}
  AllCutWell root (Some' p n) = CutsWell root n

-- the box in which the last one of splits ends, and the root where there is none
abbrev pub top_box : Box → List SplitNode → Box
top_box root [] = root
top_box root (split ∷ splits) = final_box root split

-- the box with which a split began
abbrev pub start_box : Box → SplitNode → Box
start_box root (SplitNode' above side node depth steps cut) = above_box root side above

-- a box stands where the split above this one ended, and all cuts on the way cut
pub record IsAbove (root : Box) (b : Box) (split : SplitNode) : Type 0 where
  pub cuts : CutsWell root split
  pub at : b ≡ top_box root (ups split)
