use Rattle.std.proofs.Common.{◌≡◌, drop, map}
use Rattle.std.specs.List.{fold}
use Rattle.box_problem.specs.Box.{Box}
use Rattle.term_language.specs.Ends.{hull, hull_of}
use Rattle.term_language.specs.Rules.{item_ends}
use Rattle.term_math.specs.Shown.{ends_of}
use Rattle.term_math.specs.Kept.{items_of}
use Rattle.term_math.proofs.arrays.fixed_hull.Given as goal

abbrev pub invariant-loop-element : goal.invariant-loop-element
invariant-loop-element l =
    (b : Box) → fold hull (ends_of l.hull) (map (item_ends b) (items_of (drop l.element-index l.later))) ≡ hull_of (map (item_ends b) (items_of l.elements))
