use Rattle.std.proofs.Common.{ap, ◌∙◌, ◌++◌, map}
use Rattle.unfold_tables.specs.Listed.{element_shown, elements_named}
use Rattle.unfold_tables.specs.Tables.{constants_in}
use Rattle.unfold_tables.proofs.Named.{named_passed}
use Rattle.unfold_tables.proofs.table.Table.elements_of.Goals as goal

pub entries-init : goal.entries-init
entries-init c =
    ap (λ xs. map element_shown xs ++ elements_named c.args.name.now (constants_in c.entries_of-entries.result.now)) c.new-found.ensures.items
    ∙ ap (λ es. elements_named c.args.name.now (constants_in es)) c.entries_of-entries.ensures
    ∙ named_passed c.args.name.now _ c.args.self.now.entries.items (c.args.self.now.passed c.args.name.now)
