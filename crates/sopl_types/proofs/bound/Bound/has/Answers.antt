use Rattle.std.proofs.Common.{◌∙◌}
use Rattle.sopl_types.proofs.Scopes.{tabled_any}
use Rattle.sopl_types.proofs.bound.Bound.has.Goals as goal

-- the table has the names of the list alone
pub returns : goal.returns
returns c =
    c.is_some.ensures
    ∙ tabled_any (λ other. other.now) c.args.self.now.names.items c.args.name.now c.entity.result (c.entity.ensures ∙ c.args.self.now.tabled c.args.name.now)
