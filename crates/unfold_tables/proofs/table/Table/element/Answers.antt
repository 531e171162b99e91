use Rattle.std.proofs.Common.{ap, ◌∙◌}
use Rattle.sopl_ast.specs.Known.{constant_value}
use Rattle.unfold_tables.specs.Tables.{constants_in}
use Rattle.unfold_tables.proofs.Placing.{element_passed}
use Rattle.unfold_tables.proofs.table.Table.element.Goals as goal

pub entries-init : goal.entries-init
entries-init c =
    ap (λ es. constant_value c.args.name.now c.args.index.now (constants_in es)) c.entries_of-entries.ensures
    ∙ element_passed c.args.name.now c.args.index.now _ c.args.self.now.entries.items (c.args.self.now.passed c.args.name.now)
