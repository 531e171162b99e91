-- The boxes along a way are those of the rows.
use Rattle.std.proofs.Common.{◌≡◌, ℕ, ◌<◌, ℤ, List, [], ◌∷◌, length, Option, Some, refl, sym, ap, subst, ◌∙◌}
use Rattle.sopl_base.specs.declared.reason.Side.{Side}
use Rattle.box_problem.specs.Box.{Box}
use Rattle.sopl_base.specs.declared.reason.Side.TheVariants.{Le}
use Rattle.sopl_base.specs.declared.reason.Step.{Step}
use Rattle.box_problem.specs.BoxProblem.{BoxProblem}
use Rattle.box_problem.specs.Rightness.{AllRight}
use Rattle.box_problem.specs.Steps.{IsCut, after_step, after_steps}
use Rattle.log_rows.specs.Made.{Logs, Made, Pending, best_at}
use Rattle.log_rows.specs.declared.rows.Row.{Row}
use Rattle.log_rows.specs.declared.rows.EndLine.{EndLine}
use Rattle.log_rows.specs.declared.rows.EndLine.TheVariants as lines
use Rattle.log_rows.specs.Rows.{box_at, final_of, handed, row_at, Hangs}
use Rattle.log_rows.proofs.Places.{final_is}
use Rattle.open_nodes.specs.declared.split.SplitNode.{SplitNode, SplitNode', Held-SplitNode-above, None', Some'}
use Rattle.open_nodes.specs.Ways.{AllCutWell, StepsCut, AreRows, CutsWell, IsRow, held_ups, ups, above_box, split_cut, final_box, node_number, parent_of, row_cut, side_box, split_row}
use Rattle.open_nodes.specs.Walks.{AreNamed}

abbrev AllHang : List Row → Type 0
AllHang rows = (i : ℕ) → i < length rows → Hangs rows i (row_at rows i).parent

row_end : (rows : List Row) (split : SplitNode) → IsRow rows split → (row_at rows (node_number split)).end ≡ lines.Split (row_cut (split_cut split))
row_end rows (SplitNode' above side node depth steps cut) is = ap (λ (row : Row). row.end) is.1

mutual
  pub final_as_row : (root : Box) (rows : List Row) (split : SplitNode) → AllHang rows → IsRow rows split → final_box root split ≡ final_of root rows (node_number split)
  final_as_row root rows (SplitNode' above side node depth steps cut) hang is =
      ap (λ (b : Box). after_steps b steps) (above_as_rows root rows side above hang is.2)
      ∙ (sym (ap (λ (row : Row). after_steps (box_at root rows row.parent) row.steps) is.1)
      ∙ sym (final_is root rows node is.0 (hang node is.0)))

  pub above_as_rows : (root : Box) (rows : List Row) (side : Side) (above : Held-SplitNode-above) → AllHang rows → AreRows rows above → above_box root side above ≡ box_at root rows (parent_of side above)
  above_as_rows root rows side None' hang are = refl
  above_as_rows root rows side (Some' p n) hang are =
      ap (λ (b : Box). handed b (lines.Split (row_cut (split_cut n))) side) (final_as_row root rows n hang are)
      ∙ sym (ap (λ (end : EndLine). handed (final_of root rows (node_number n)) end side) (row_end rows n are))

pub side_as_row : (root : Box) (rows : List Row) (split : SplitNode) (side : Side) → AllHang rows → IsRow rows split
    → side_box root split side ≡ box_at root rows (Some (record { node = node_number split; side = side }))
side_as_row root rows split side hang is =
    ap (λ (b : Box). handed b (lines.Split (row_cut (split_cut split))) side) (final_as_row root rows split hang is)
    ∙ sym (ap (λ (end : EndLine). handed (final_of root rows (node_number split)) end side) (row_end rows split is))

-- right steps cut
right_cuts : (problem : BoxProblem) (v : Option ℤ) (b : Box) (steps : List Step) → AllRight problem v b steps → StepsCut b steps
right_cuts problem v b [] right = tt
right_cuts problem v b (s ∷ steps) right = (right.0.cut, right_cuts problem v (after_step b s) steps right.1)

made_row : (problem : BoxProblem) (rows : List Row) (opens : List Pending) (best : Option ℤ) (i : ℕ) (row : Row) → Logs problem rows opens best → i < length rows → row_at rows i ≡ row
    → Made problem (best_at problem rows i) (box_at problem.root rows row.parent) row (final_of problem.root rows i)
made_row problem rows opens best i row logs exists is =
    subst (λ (r : Row). Made problem (best_at problem rows i) (box_at problem.root rows r.parent) r (final_of problem.root rows i)) is (logs.made i exists)

mutual
  pub cuts_as_rows : (problem : BoxProblem) (rows : List Row) (opens : List Pending) (best : Option ℤ) (split : SplitNode) → Logs problem rows opens best → IsRow rows split
      → CutsWell problem.root split
  cuts_as_rows problem rows opens best (SplitNode' above side node depth steps cut) logs is =
      let made = made_row problem rows opens best node (split_row side above steps cut) logs is.0 is.1 in (
        subst (λ (b : Box). StepsCut b steps) (sym (above_as_rows problem.root rows side above logs.hangs is.2))
            (right_cuts problem (best_at problem rows node) (box_at problem.root rows (parent_of side above)) steps made.steps),
        subst (λ (b : Box). IsCut b cut.cell Le cut.k) (sym (final_as_row problem.root rows (SplitNode' above side node depth steps cut) logs.hangs is)) made.end.cut,
        all_cut_as_rows problem rows opens best above logs is.2,
      )

  all_cut_as_rows : (problem : BoxProblem) (rows : List Row) (opens : List Pending) (best : Option ℤ) (above : Held-SplitNode-above) → Logs problem rows opens best → AreRows rows above
      → AllCutWell problem.root above
  all_cut_as_rows problem rows opens best None' logs are = tt
  all_cut_as_rows problem rows opens best (Some' p n) logs are = cuts_as_rows problem rows opens best n logs are

mutual
  pub named_as_rows : (root : Box) (rows : List Row) (split : SplitNode) → AllHang rows → IsRow rows split → AreNamed root (final_of root rows) (split ∷ ups split)
  named_as_rows root rows (SplitNode' above side node depth steps cut) hang is =
      (final_as_row root rows (SplitNode' above side node depth steps cut) hang is, all_named root rows above hang is.2)

  all_named : (root : Box) (rows : List Row) (above : Held-SplitNode-above) → AllHang rows → AreRows rows above → AreNamed root (final_of root rows) (held_ups above)
  all_named root rows None' hang are = tt
  all_named root rows (Some' p n) hang are = named_as_rows root rows n hang are
