use Rattle.std.proofs.Common.{ap, ◌∙◌}
use Rattle.sopl_ast.specs.Known.{set_named}
use Rattle.unfold_tables.specs.Tables.{sets_in}
use Rattle.unfold_tables.proofs.Placing.{set_passed}
use Rattle.unfold_tables.proofs.table.Table.numbers.Goals as goal

pub entries-init : goal.entries-init
entries-init c =
    ap (λ es. set_named c.args.name.now (sets_in es)) c.entries_of-entries.ensures
    ∙ set_passed c.args.name.now _ c.args.self.now.entries.items (c.args.self.now.passed c.args.name.now)
