-- A box of which one cell was narrowed since a mark, and which is set back.
use Rattle.std.proofs.Common.{◌≡◌, ◌∙◌, ℕ, ◌<◌, ℤ, List, [], ◌∷◌, length, get_or, arith, ap, subst, sym}
use Rattle.sopl_base.specs.declared.reason.Reason.TheVariants.{Bound}
use Rattle.sopl_base.specs.declared.reason.Side.{Side}
use Rattle.box_problem.specs.Box.{Box, Inside}
use Rattle.box_problem.specs.Steps.{IsCut, narrowed}
use Rattle.box_problem.proofs.Boxes.{parts_of_parts}
use Rattle.box_problem.proofs.Cuts.{cuts_make_parts}
use Rattle.box_store.specs.Store.{IsUndone, Mark, Store}
use Rattle.open_nodes.specs.Walks.{marked}
use Rattle.prop_core.specs.Watches.{AgreeElsewhere}
use Rattle.prop_core.proofs.Onward.{step_agrees}

-- boxes agree but for the cell that was narrowed
pub narrowed_elsewhere : (b c : Box) (cell : ℕ) (side : Side) (k : ℤ) → c ≡ narrowed b cell side k → AgreeElsewhere cell b c
narrowed_elsewhere b c cell side k is = step_agrees b c (record { reason = Bound; cell = cell; side = side; k = k }) is

-- there is a mark, and it has the box that was marked
pub is_marked : (marks : List Mark) (b : Box) (bs : List Box) → marked marks ≡ b ∷ bs → 0 < length marks
is_marked [] b bs is = let none : 0 ≡ length (b ∷ bs) = ap length is in absurd (omega (arith, none))
is_marked (mark ∷ older) b bs is = omega arith

undone_box : (marks : List Mark) (b : Box) (bs : List Box) (after : Store) → marked marks ≡ b ∷ bs → IsUndone marks after → after.box ≡ b
undone_box [] b bs after is undone = absurd undone
undone_box (mark ∷ older) b bs after is undone = undone.box ∙ ap (λ (boxes : List Box). get_or boxes 0 b) is

-- each of these boxes is inside the root
pub inside_raised : (b c root : Box) (cell : ℕ) (side : Side) (k : ℤ) → Inside b root → IsCut b cell side k → c ≡ narrowed b cell side k → Inside c root
inside_raised b c root cell side k inside cut is =
    subst (λ (part : Box). Inside part root) (sym is)
    (parts_of_parts (narrowed b cell side k) b root (cuts_make_parts b cell side k inside.is_box cut).0 inside)

pub inside_again : (marks : List Mark) (b root : Box) (bs : List Box) (after : Store) → marked marks ≡ b ∷ bs → IsUndone marks after → Inside b root → Inside after.box root
inside_again marks b root bs after is undone inside = subst (λ (part : Box). Inside part root) (sym (undone_box marks b bs after is undone)) inside
