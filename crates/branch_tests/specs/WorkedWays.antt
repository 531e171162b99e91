-- Worked ways: one cell with the numbers from 0 to 7 is split at 3, its low side at 1, and that one's low side at 0.
use Rattle.std.specs.Prelude.{◌≡◌, ℕ, suc, zero, ℤ, pos, [], ◌∷◌}
use Rattle.sopl_base.specs.declared.reason.Side.TheVariants.{Le}
use Rattle.box_problem.specs.Box.{Box}
use Rattle.open_nodes.specs.declared.split.SplitNode.{SplitNode}
use Rattle.open_nodes.specs.declared.walk.BoxWalk.{BoxWalk}
use Rattle.open_nodes.specs.Ways.{CutsWell, node_number, side_box, ups}
use Rattle.open_nodes.specs.Walks.{AreNamed, StandsAt}

-- where the split of this number cuts, and the greatest number of its box
abbrev pub worked_cut : ℕ → ℤ
worked_cut zero = pos 3
worked_cut (suc zero) = pos 1
worked_cut (suc (suc n)) = pos 0

abbrev pub worked_top : ℕ → ℤ
worked_top zero = pos 7
worked_top (suc n) = worked_cut n

abbrev pub worked_box : ℕ → Box
worked_box n = record { lows = pos 0 ∷ []; highs = worked_top n ∷ [] }

-- a split of this way
pub record IsWorked (n : ℕ) (split : SplitNode) : Type 0 where
  pub number : node_number split ≡ n
  pub cuts : CutsWell (worked_box 0) split
  pub named : AreNamed (worked_box 0) worked_box (split ∷ ups split)
  pub low_side : side_box (worked_box 0) split Le ≡ worked_box (suc n)

-- a box that stands on it, or at the root
abbrev pub StandsWorked : BoxWalk → Type 0
StandsWorked walk = StandsAt (worked_box 0) worked_box walk
