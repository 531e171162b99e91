use Rattle.std.proofs.Common.{◌≡◌, drop}
use Rattle.unfold_tables.specs.Tables.{element_value, pairs}
use Rattle.unfold_tables.proofs.elements.among.Given as goal

abbrev pub invariant-elements : goal.invariant-elements
invariant-elements l = element_value l.index (pairs (drop l.element-index l.elements)) ≡ element_value l.index (pairs l.elements)
