use Rattle.std.proofs.Common.{ap, ◌∙◌}
use Rattle.sopl_ast.specs.Mistakes.{entity_of, with_entity}
use Rattle.sopl_types.specs.Entered.{seen, entered, declared_in}
use Rattle.sopl_types.proofs.Scopes.{entered_insert}
use Rattle.sopl_types.proofs.names.Declared.declare.Goals as goal

-- the table stands for what it stood for, but for the entered name
pub returns : goal.returns
returns c = λ other.
    ap (λ es. entity_of (entered es) other) c.in_ok-insert.ensures.entries
    ∙ entered_insert c.args.self.now.entries.entries c.in_ok-key.key c.args.entity other
    ∙ ap (λ key. entity_of (with_entity key (seen c.args.entity) (declared_in c.args.self.now)) other) (c.in_ok-key.ensures.items ∙ c.as_slice.ensures.bytes)
