use Rattle.std.proofs.Common.{◌≡◌, drop, map}
use Rattle.std.specs.List.{fold}
use Rattle.term_language.specs.Ends.{hull, hull_of}
use Rattle.term_language.specs.Rules.{item_ends}
use Rattle.term_math.specs.Shown.{box_in, ends_of}
use Rattle.term_math.specs.Kept.{items_of}
use Rattle.term_math.proofs.tables.Table.walked_hull.Given as goal

abbrev pub invariant-loop-element : goal.invariant-loop-element
invariant-loop-element l =
    fold hull (ends_of l.hull) (map (item_ends (box_in l.view)) (items_of (drop l.element-index l.later)))
    ≡ hull_of (map (item_ends (box_in l.view)) (items_of l.self.elements.items))
