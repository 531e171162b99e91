use Rattle.std.proofs.Common.{◌≡◌, ◌++◌, map, drop}
use Rattle.unfold_tables.specs.Listed.{element_shown, elements_named}
use Rattle.unfold_tables.specs.Tables.{constants_in}
use Rattle.unfold_tables.proofs.table.Table.elements_of.Given as goal

abbrev pub invariant-entries : goal.invariant-entries
invariant-entries l =
    map element_shown l.found.items ++ elements_named l.name (constants_in (drop l.entry-index l.entries))
    ≡ elements_named l.name (constants_in l.self.entries.items)
