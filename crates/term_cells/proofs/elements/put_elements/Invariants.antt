use Rattle.std.proofs.Common.{◌≡◌, drop}
use Rattle.std.specs.List.{flat_map}
use Rattle.term_math.specs.Kept.{items_of}
use Rattle.term_language.specs.Mentions.{item_mentions}
use Rattle.term_cells.specs.Cells.{with_cells}
use Rattle.term_cells.proofs.elements.put_elements.Given as goal

abbrev pub invariant-elements : goal.invariant-elements
invariant-elements l =
    with_cells l.cells.keys (flat_map item_mentions (items_of (drop l.element-index l.elements)))
    ≡ with_cells l.fn.cells.keys (flat_map item_mentions (items_of l.elements))
