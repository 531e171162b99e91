use Rattle.std.proofs.Common.{◌≡◌, drop}
use Rattle.sopl_ast.specs.Known.{set_named}
use Rattle.unfold_tables.specs.Tables.{sets_in}
use Rattle.unfold_tables.proofs.table.Table.numbers.Given as goal

abbrev pub invariant-entries : goal.invariant-entries
invariant-entries l = set_named l.name (sets_in (drop l.entry-index l.entries)) ≡ set_named l.name (sets_in l.self.entries.items)
