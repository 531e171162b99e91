-- How a node of a search ends.
use Rattle.std.specs.Prelude.{◌≡◌, ℕ, ◌≤◌, ℤ, Bool, true, List, Option, Some, Contains}
use Rattle.sopl_base.specs.declared.reason.Reason.{Reason}
use Rattle.sopl_base.specs.declared.limits.TheConstants as largest
use Rattle.std.specs.Int.RustNames.{unsigned_abs}
use Rattle.brancher.specs.declared.choice.Choice.{Choice}
use Rattle.brancher.specs.Picks.{IsPicked}
use Rattle.brancher.specs.Rules.{Rule}
use Rattle.box_problem.specs.Box.{Box, IsPoint}
use Rattle.box_problem.specs.Bits.{bits_in}
use Rattle.box_problem.specs.BoxProblem.{BoxProblem, Beats, Lawful}
use Rattle.box_problem.specs.Near.{IsNearBox}
use Rattle.box_problem.specs.Rightness.{IsConsistent}
use Rattle.open_nodes.specs.declared.halving.Halving.{Halving}
use Rattle.sopl_search.specs.declared.ending.NodeEnd.{NodeEnd}
use Rattle.sopl_search.specs.declared.ending.NodeEnd.TheVariants.{Refuted, Split, Point}

-- what a search asks of a problem
pub record IsPosed (problem : BoxProblem) : Type 0 where
  pub lawful : Lawful problem
  pub near : IsNearBox problem.root
  pub few_bits : bits_in problem.root ≤ unsigned_abs largest.BITS

-- all reasons of a problem are among these
pub record AreAll (problem : BoxProblem) (reasons : List Reason) : Type 0 where
  pub among : (reason : Reason) → Contains problem.reasons reason → Contains reasons reason

-- a choice of a cell, of the greatest value of its low half, and of the half that is searched first
abbrev pub choice_of : ℕ → ℤ → Bool → Choice
choice_of cell k low_first = record { cell = cell; cut = k; low_first = low_first }

-- the cut of a cell of a box is the one that is picked at this depth, where a brancher of this rule is asked, or none is
abbrev pub IsPickedCut : Option Rule → ℕ → Box → ℕ → ℤ → Bool → Type 0
IsPickedCut asked depth b cell k low_first = IsPicked asked depth b.lows b.highs (Some (choice_of cell k low_first))

-- a box ends at its one point, or by the cut that is picked
abbrev pub EndsPicked : Option Rule → ℕ → Box → NodeEnd → Type 0
EndsPicked asked depth b (Refuted reason) = ⊥
EndsPicked asked depth b (Split cut low_first) = IsPickedCut asked depth b cut.cell cut.k low_first
EndsPicked asked depth b Point = IsPoint b

-- a consistent box is cut
pub record IsSplit (problem : BoxProblem) (v : Option ℤ) (asked : Option Rule) (depth : ℕ) (b : Box) (cut : Halving) (low_first : Bool) : Type 0 where
  pub consistent : IsConsistent problem v b
  pub picked : IsPickedCut asked depth b cut.cell cut.k low_first

-- a box is one point, which beats v
pub record IsNewPoint (problem : BoxProblem) (v : Option ℤ) (b : Box) : Type 0 where
  pub one : IsPoint b
  pub beats : Beats problem v b.lows

-- how the box of a node ends
abbrev pub Ends : BoxProblem → Option ℤ → Option Rule → ℕ → Box → NodeEnd → Type 0
Ends problem v asked depth b (Refuted reason) = problem.refutes reason b v ≡ true
Ends problem v asked depth b (Split cut low_first) = IsSplit problem v asked depth b cut low_first
Ends problem v asked depth b Point = IsNewPoint problem v b
