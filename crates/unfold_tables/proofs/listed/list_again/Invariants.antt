use Rattle.std.proofs.Common.{◌≡◌, ◌++◌, map, drop}
use Rattle.unfold_tables.specs.Listed.{element_shown}
use Rattle.unfold_tables.specs.Tables.{pairs}
use Rattle.unfold_tables.proofs.listed.list_again.Given as goal

abbrev pub invariant-elements : goal.invariant-elements
invariant-elements l =
    map element_shown l.found.items ++ pairs (drop l.element-index l.elements) ≡ map element_shown l.fn.found.items ++ pairs l.elements
