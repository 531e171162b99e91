use Rattle.std.proofs.Common.{◌≡◌, ◌++◌, map}
use Rattle.unfold_tables.specs.Listed.{element_shown}
use Rattle.unfold_tables.specs.Tables.{pairs}
use Rattle.unfold_tables.proofs.elements.Elements.list_first.Given as goal

abbrev pub invariant-first : goal.invariant-first
invariant-first l = map element_shown l.found.items ++ pairs l.index-iterator ≡ map element_shown l.fn.found.items ++ pairs l.self.first.entries
