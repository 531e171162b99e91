-- Which ends a box makes again where it goes to a node.
use Rattle.std.specs.Prelude.{◌≡◌, ℕ, ◌<◌, ◌≤◌, List, [], ◌∷◌, ◌++◌, map, Contains}
use Rattle.std.specs.List.{AllByRecursion}
use Rattle.sopl_base.specs.declared.reason.Step.{Step}
use Rattle.open_nodes.specs.declared.split.SplitNode.{SplitNode, SplitNode', Held-SplitNode-above, None', Some'}
use Rattle.open_nodes.specs.Ways.{node_number, split_cut, ups}

-- the cells of the ends with which a split node began and was narrowed: that of the cut above it, and those of its steps
abbrev pub step_cell : Step → ℕ
step_cell step = step.cell

abbrev pub cut_cells : Held-SplitNode-above → List ℕ
cut_cells None' = []
cut_cells (Some' p n) = (split_cut n).cell ∷ []

abbrev pub above_cells : SplitNode → List ℕ
above_cells (SplitNode' above side node depth steps cut) = cut_cells above

abbrev pub cells_made : SplitNode → List ℕ
cells_made (SplitNode' above side node depth steps cut) = cut_cells above ++ map step_cell steps

-- those of several splits, the last one first
abbrev pub cells_along : List SplitNode → List ℕ
cells_along [] = []
cells_along (split ∷ splits) = cells_along splits ++ cells_made split

abbrev pub split_numbers : List SplitNode → List ℕ
split_numbers splits = map node_number splits

-- each number is greater than all behind it: so are the numbers along a way, from the nearest split up
abbrev pub Descends : List ℕ → Type 0
Descends [] = Unit {0}
Descends (n ∷ ns) = AllByRecursion (λ m. m < n) ns × Descends ns

-- each number is less than this one
abbrev pub AreBelow : ℕ → List ℕ → Type 0
AreBelow most ns = AllByRecursion (λ n. n < most) ns

-- none of these splits has one of these numbers
abbrev pub StandApart : List ℕ → List SplitNode → Type 0
StandApart here splits = AllByRecursion (λ (split : SplitNode). AllByRecursion (λ n. ¬ n ≡ node_number split) here) splits

-- the first split has one of them, or there is no split
abbrev pub FirstStands : List ℕ → List SplitNode → Type 0
FirstStands here [] = Unit {0}
FirstStands here (split ∷ splits) = Contains here (node_number split)

-- numbers of which a front was left
pub record HasLeft (old new : List ℕ) : Type 0 where
  pub gone : List ℕ
  pub whole : old ≡ gone ++ new

-- a front of numbers that are all greater than this one
pub record GoesBack (node : ℕ) (old new : List ℕ) : Type 0 where
  pub gone : List ℕ
  pub whole : old ≡ gone ++ new
  pub above : AllByRecursion (λ n. node < n) gone

abbrev pub BeginsAtMost : List ℕ → ℕ → Type 0
BeginsAtMost [] node = Unit {0}
BeginsAtMost (n ∷ ns) node = n ≤ node

-- a box that stood at the end of a way of splits with these numbers, the nearest one first, has gone to a side of a split: along the splits
-- on the way there that do not stand on the way of before. The cells of their ends, and the one that the split cuts, came behind a list
pub record MakesAgain (here : List ℕ) (split : SplitNode) (old new : List ℕ) : Type 0 where
  pub downs : List SplitNode
  pub rest : List SplitNode
  pub chain : split ∷ ups split ≡ downs ++ rest
  pub met : FirstStands here rest
  pub apart : Descends here → Descends (split_numbers (split ∷ ups split)) → StandApart here downs
  pub listed : new ≡ old ++ cells_along downs ++ (split_cut split).cell ∷ []
