-- What stays where rows follow.
use Rattle.std.proofs.Common.{◌≡◌, ℕ, ◌+◌, ◌<◌, ◌≤◌, List, [], ◌∷◌, ◌++◌, length, map, reverse, Option, Some, None, arith, refl, sym, ap, ◌∙◌}
use Rattle.std.proofs.lemmas.List.{length-append}
use Rattle.box_problem.specs.Box.{Box}
use Rattle.log_rows.specs.declared.rows.Row.{Row}
use Rattle.log_rows.specs.Rows.{final_of}
use Rattle.log_rows.proofs.Places.{depth_stays, final_stays}
use Rattle.open_nodes.specs.declared.seats.OpenNode.{OpenNode}
use Rattle.open_nodes.specs.declared.split.SplitNode.{SplitNode}
use Rattle.open_nodes.specs.declared.walk.BoxWalk.{BoxWalk}
use Rattle.open_nodes.specs.Remade.{AreBelow}
use Rattle.open_nodes.specs.Ways.{node_number}
use Rattle.open_nodes.proofs.GoingOn.{row_goes_on, way_below}
use Rattle.sopl_search.specs.Frontiers.{AreRowNodes, IsOnRows, IsSplitRow}
use Rattle.sopl_search.specs.Lines.{split_above}

-- a box stands on the same way
same_below : (f g : ℕ → Box) (most : ℕ) (ns : List ℕ) → AreBelow most ns → ((n : ℕ) → n < most → f n ≡ g n) → map f ns ≡ map g ns
same_below f g most [] below same = refl
same_below f g most (n ∷ ns) below same = ap (λ (b : Box). b ∷ map f ns) (same n below.0) ∙ ap (λ (bs : List Box). g n ∷ bs) (same_below f g most ns below.1 same)

more_below : (a b : ℕ) (ns : List ℕ) → a ≤ b → AreBelow a ns → AreBelow b ns
more_below a b [] most below = tt
more_below a b (n ∷ ns) most below = (omega (arith, most, below.0), more_below a b ns most below.1)

pub on_rows_more : (root : Box) (rows more : List Row) (walk : BoxWalk) → IsOnRows root rows walk → IsOnRows root (rows ++ more) walk
on_rows_more root rows more walk on = record {
  at = on.at ∙ ap (λ (bs : List Box). bs ++ root ∷ [])
      (same_below (final_of root rows) (final_of root (rows ++ more)) (length rows) (reverse walk.here.items) on.below (λ n exists. sym (final_stays root rows more n exists)));
  below = more_below (length rows) (length (rows ++ more)) (reverse walk.here.items) (omega (arith, length-append rows more)) on.below;
}

-- open nodes have the same ways
split_row_more : (rows more : List Row) (split : Option SplitNode) → IsSplitRow rows split → IsSplitRow (rows ++ more) split
split_row_more rows more None is = tt
split_row_more rows more (Some split) is =
    (row_goes_on rows more split is.0, is.1 ∙ sym (depth_stays rows more (node_number split) (way_below rows split is.0).0))

pub row_nodes_more : (rows more : List Row) (nodes : List OpenNode) → AreRowNodes rows nodes → AreRowNodes (rows ++ more) nodes
row_nodes_more rows more [] are = tt
row_nodes_more rows more (node ∷ nodes) are = (split_row_more rows more (split_above node) are.0, row_nodes_more rows more nodes are.1)
