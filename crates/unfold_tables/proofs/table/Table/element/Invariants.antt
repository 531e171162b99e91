use Rattle.std.proofs.Common.{◌≡◌, drop}
use Rattle.sopl_ast.specs.Known.{constant_value}
use Rattle.unfold_tables.specs.Tables.{constants_in}
use Rattle.unfold_tables.proofs.table.Table.element.Given as goal

abbrev pub invariant-entries : goal.invariant-entries
invariant-entries l = constant_value l.name l.index (constants_in (drop l.entry-index l.entries)) ≡ constant_value l.name l.index (constants_in l.self.entries.items)
