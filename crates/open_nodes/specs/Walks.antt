-- Where a box stands that goes from node to node.
use Rattle.std.specs.Prelude.{◌≡◌, ℕ, List, [], ◌∷◌, ◌++◌, map, reverse, Option, None, Some}
use Rattle.sopl_base.specs.declared.reason.Side.{Side}
use Rattle.box_problem.specs.Box.{Box}
use Rattle.box_store.specs.Store.{Mark}
use Rattle.open_nodes.specs.declared.split.SplitNode.{SplitNode}
use Rattle.open_nodes.specs.declared.walk.BoxWalk.{BoxWalk}
use Rattle.open_nodes.specs.Ways.{CutsWell, final_box, node_number, side_box, top_box, ups}

-- the boxes at marks
abbrev pub marked : List Mark → List Box
marked marks = map (λ (mark : Mark). mark.box) marks

-- at the marks stand the boxes of the splits with these numbers, the newest first, and at the oldest one the root
abbrev pub StandsAt : Box → (ℕ → Box) → BoxWalk → Type 0
StandsAt root f walk = marked walk.store.marks ≡ map f (reverse walk.here.items) ++ root ∷ []

-- the numbers of these splits are those by which f knows their boxes
abbrev pub AreNamed : Box → (ℕ → Box) → List SplitNode → Type 0
AreNamed root f [] = Unit {0}
AreNamed root f (split ∷ splits) = (final_box root split ≡ f (node_number split)) × AreNamed root f splits

-- the way to a node is known where a box stands
pub record IsKnownWay (root : Box) (f : ℕ → Box) (walk : BoxWalk) (split : SplitNode) : Type 0 where
  pub at : StandsAt root f walk
  pub cuts : CutsWell root split
  pub named : AreNamed root f (split ∷ ups split)

-- and now it stands there
pub record IsEntered (root : Box) (f : ℕ → Box) (walk : BoxWalk) (split : SplitNode) (side : Side) : Type 0 where
  pub at : StandsAt root f walk
  pub box : walk.store.box ≡ side_box root split side

-- the box has gone down to a split
pub record HasDescended (root : Box) (old new : BoxWalk) (split : SplitNode) : Type 0 where
  pub box : new.store.box ≡ final_box root split
  pub marks : marked new.store.marks ≡ final_box root split ∷ marked old.store.marks
  pub here : new.here.items ≡ old.here.items ++ node_number split ∷ []

-- a split with all above it, or none
abbrev pub with_ups : Option SplitNode → List SplitNode
with_ups None = []
with_ups (Some split) = split ∷ ups split

-- the first node_number is that of the first split, or there is neither
abbrev pub Tops : List ℕ → List SplitNode → Type 0
Tops [] [] = Unit {0}
Tops [] (split ∷ splits) = ⊥
Tops (n ∷ ns) [] = ⊥
Tops (n ∷ ns) (split ∷ splits) = n ≡ node_number split

abbrev pub BeginsWith : List ℕ → ℕ → Type 0
BeginsWith [] node = ⊥
BeginsWith (n ∷ ns) node = n ≡ node

-- these splits are the way down from where a walk stands
pub record Meets (here : List ℕ) (downs : List SplitNode) (split : SplitNode) : Type 0 where
  pub rest : List SplitNode
  pub chain : split ∷ ups split ≡ downs ++ rest
  pub tops : Tops (reverse here) rest

-- a box is that of the newest mark
abbrev pub IsTop : Box → List Box → Type 0
IsTop b [] = ⊥
IsTop b (mark ∷ marks) = b ≡ mark

-- a walk is on its way down to a split: these splits are still to come, the last one first
pub record IsGoing (root : Box) (f : ℕ → Box) (walk : BoxWalk) (downs : List SplitNode) (split : SplitNode) : Type 0 where
  pub rest : List SplitNode
  pub chain : split ∷ ups split ≡ downs ++ rest
  pub box : walk.store.box ≡ top_box root rest
  pub known : IsKnownWay root f walk split
