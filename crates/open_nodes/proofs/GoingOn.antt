-- Ways, as rows are added.
use Rattle.std.proofs.Common.{◌≡◌, ℕ, ◌<◌, List, [], ◌∷◌, ◌++◌, length, Option, None, Some, option_map, IfSome, sym, ap, subst, ◌∙◌, arith}
use Rattle.std.specs.declared.alloc.Global.{Global}
use Rattle.std.specs.declared.rc.Rc.{Rc}
use Rattle.std.proofs.lemmas.List.{length-append}
use Rattle.sopl_base.specs.declared.reason.Side.{Side}
use Rattle.sopl_base.specs.declared.reason.Step.{Step}
use Rattle.log_rows.specs.declared.rows.Row.{Row}
use Rattle.log_rows.specs.Rows.{row_at, Hangs}
use Rattle.log_rows.proofs.Places.{row_last, row_stays}
use Rattle.open_nodes.specs.declared.halving.Halving.{Halving}
use Rattle.open_nodes.specs.declared.split.SplitNode.TheViews.{roll-SplitNode}
use Rattle.open_nodes.specs.declared.split.SplitNode.{SplitNode, SplitNode', Held-SplitNode-above, None', Some'}
use Rattle.open_nodes.specs.Ways.{AreRows, IsRow, given_row, held_ups, node_number, parent_of, ups}
use Rattle.open_nodes.specs.Remade.{AreBelow, Descends, split_numbers}
use Rattle.open_nodes.proofs.Remaking.{less_than}

mutual
  pub row_goes_on : (rows more : List Row) (split : SplitNode) → IsRow rows split → IsRow (rows ++ more) split
  row_goes_on rows more (SplitNode' above side node depth steps cut) is =
      (omega (arith, is.0, length-append rows more), row_stays rows more node is.0 ∙ is.1, rows_go_on rows more above is.2)

  rows_go_on : (rows more : List Row) (above : Held-SplitNode-above) → AreRows rows above → AreRows (rows ++ more) above
  rows_go_on rows more None' are = tt
  rows_go_on rows more (Some' p n) are = row_goes_on rows more n are

mutual
  pub way_descends : (rows : List Row) (split : SplitNode) → ((i : ℕ) → i < length rows → Hangs rows i (row_at rows i).parent) → IsRow rows split
      → Descends (split_numbers (split ∷ ups split))
  way_descends rows (SplitNode' above side node depth steps cut) hang is =
      held_descends rows side above node hang is.2 (subst (Hangs rows node) (ap (λ (row : Row). row.parent) is.1) (hang node is.0))

  held_descends : (rows : List Row) (side : Side) (above : Held-SplitNode-above) (node : ℕ) → ((i : ℕ) → i < length rows → Hangs rows i (row_at rows i).parent)
      → AreRows rows above → Hangs rows node (parent_of side above) → Descends (node ∷ split_numbers (held_ups above))
  held_descends rows side None' node hang are hangs = (tt, tt)
  held_descends rows side (Some' p n) node hang are hangs =
      let falls = way_descends rows n hang are in
      ((hangs.earlier, less_than (node_number n) node (omega (arith, hangs.earlier)) (split_numbers (ups n)) falls.0), falls)

-- the numbers along a way are those of rows
mutual
  pub way_below : (rows : List Row) (split : SplitNode) → IsRow rows split → AreBelow (length rows) (split_numbers (split ∷ ups split))
  way_below rows (SplitNode' above side node depth steps cut) is = (is.0, held_below rows above is.2)

  held_below : (rows : List Row) (above : Held-SplitNode-above) → AreRows rows above → AreBelow (length rows) (split_numbers (held_ups above))
  held_below rows None' are = tt
  held_below rows (Some' p n) are = way_below rows n are

-- a node that is made is the next row
pub made_row : (above : Option (Rc SplitNode Global)) (side : Side) (node depth : ℕ) (steps : List Step) (cut : Halving) (made : SplitNode)
    → made ≡ roll-SplitNode (record { above = above; side = side; node = node; depth = depth; steps = steps; cut = cut })
    → (rows : List Row) → node ≡ length rows → IfSome above (λ (split : Rc SplitNode Global). IsRow rows split.value)
    → IsRow (rows ++ given_row side (option_map (λ (split : Rc SplitNode Global). split.value) above) steps cut ∷ []) made
unfolding roll-SplitNode denote.Hole.Carrier.roll
made_row None side node depth steps cut made is rows at are =
    let row = given_row side None steps cut in
    subst (IsRow (rows ++ row ∷ [])) (sym is)
    (omega (arith, at, length-append rows (row ∷ [])), ap (row_at (rows ++ row ∷ [])) at ∙ row_last rows row [], tt)
made_row (Some split) side node depth steps cut made is rows at are =
    let row = given_row side (Some split.value) steps cut in
    subst (IsRow (rows ++ row ∷ [])) (sym is) (
      omega (arith, at, length-append rows (row ∷ [])),
      ap (row_at (rows ++ row ∷ [])) at ∙ row_last rows row [],
      row_goes_on rows (row ∷ []) split.value are,
    )
