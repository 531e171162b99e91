use Rattle.std.proofs.Common.{ap, ◌∙◌}
use Rattle.std.specs.Option.{option_map}
use Rattle.sopl_ast.specs.Mistakes.{entity_of}
use Rattle.sopl_types.specs.Entered.{seen, declared_in}
use Rattle.sopl_types.proofs.Scopes.{entered_lookup}
use Rattle.sopl_types.proofs.names.Declared.entity.Goals as goal

-- a look-up in the table
pub returns : goal.returns
returns c =
    ap (option_map seen) (c.copied.ensures ∙ c.get.ensures.value)
    ∙ entered_lookup c.args.self.now.entries.entries c.as_slice.result.now
    ∙ ap (entity_of (declared_in c.args.self.now)) c.as_slice.ensures.bytes
