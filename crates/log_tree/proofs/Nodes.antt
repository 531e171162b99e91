-- A node that is placed wrongly, or too deep; and one row more.
use Rattle.std.proofs.Common.{◌≡◌, ◌∙◌, ◌<◌, ◌≤◌, ℕ, List, [], ◌∷◌, ◌++◌, length, Option, None, Bool, true, false, sym, ap, subst}
use Rattle.sopl_base.specs.declared.fault.Fault.{Fault}
use Rattle.sopl_base.specs.declared.reason.Step.{Step}
use Rattle.sopl_base.specs.declared.codes.TheConstants as codes
use Rattle.log_rows.specs.declared.rows.Parent.{Parent}
use Rattle.log_rows.specs.declared.rows.Row.{Row}
use Rattle.log_rows.specs.declared.rows.EndLine.{EndLine}
use Rattle.log_rows.specs.Rows.{Hangs, depth_at}
use Rattle.log_rows.specs.Accepted.{greatest_depth}
use Rattle.log_tree.specs.declared.slots.Slots.{Slots}
use Rattle.log_tree.specs.declared.reading.Heading.{Heading}
use Rattle.log_tree.specs.Slots.{SlotsFit, is_next, depth_in, with_taken, new_slots}
use Rattle.log_tree.specs.Reads.{ReadsFrom, misplaced, too_deep, RefusedAs, IsNextNode, row_with_steps, ended_row}
use Rattle.log_tree.specs.Progress.{RefusesNode}
use Rattle.log_tree.proofs.Bodies.{bad}
use Rattle.log_tree.proofs.Keeping.{next_tells, next_told, depth_is, keeps_more}

module _ (rows : List Row) (slots : List Slots) (keeps : SlotsFit rows slots) (n : ℕ) (heading : Heading) (fault : Fault) (next : Bool) (tested : next ≡ is_next slots heading) where
  pub bad_place : next ≡ false → fault ≡ bad codes.NODE_PLACE n → RefusesNode rows n heading fault
  bad_place isnt is = record {
    refuses = λ line lines fits of. subst (RefusedAs (ReadsFrom rows None n (line ∷ lines))) (sym is)
        (misplaced rows n line lines heading fits of (λ there. let clash : true ≡ false = sym (next_told rows slots keeps heading there) ∙ sym tested ∙ isnt in absurd (cc)));
  }

  pub bad_depth : (depth : ℕ) → next ≡ true → depth ≡ depth_in slots heading.parent → greatest_depth < depth → fault ≡ bad codes.NODE_DEPTH n → RefusesNode rows n heading fault
  bad_depth depth there deep above is =
      let follows : IsNextNode rows heading = next_tells rows slots keeps heading (sym tested ∙ there) in
      let depth_there : depth ≡ depth_at rows heading.parent = deep ∙ depth_is rows slots keeps heading.parent follows.hangs in
      record {
        refuses = λ line lines fits of. subst (RefusedAs (ReadsFrom rows None n (line ∷ lines))) (sym is)
            (too_deep rows n line lines heading fits of follows (subst (λ d. greatest_depth < d) depth_there above));
      }

pub kept_more : (rows : List Row) (slots : List Slots) (parent : Option Parent) (steps : List Step) (end : EndLine) (depth : ℕ) (rows_after : List Row) (hooks_after : List Slots)
    → SlotsFit rows slots → Hangs rows (length rows) parent → depth ≡ depth_at rows parent → depth ≤ greatest_depth
    → rows_after ≡ rows ++ ended_row (row_with_steps parent steps) end ∷ [] → hooks_after ≡ with_taken slots parent ++ new_slots end depth ∷ [] → SlotsFit rows_after hooks_after
kept_more rows slots parent steps end depth rows_after hooks_after keeps hangs is shallow rows_are hooks_are =
    let more : SlotsFit (rows ++ ended_row (row_with_steps parent steps) end ∷ []) (with_taken slots parent ++ new_slots end (depth_at rows parent) ∷ []) =
    keeps_more rows slots keeps (ended_row (row_with_steps parent steps) end) hangs (subst (λ d. d ≤ greatest_depth) is shallow) in
    subst (λ rs. SlotsFit rs hooks_after) (sym rows_are)
    (subst (λ hs. SlotsFit (rows ++ ended_row (row_with_steps parent steps) end ∷ []) hs) (sym (hooks_are ∙ ap (λ d. with_taken slots parent ++ new_slots end d ∷ []) is)) more)
