use Rattle.std.proofs.Common.{sym, ◌∙◌}
use Rattle.sopl_types.specs.Known.{known_outside}
use Rattle.sopl_types.proofs.Scopes.{bound_there, bound_not_there}
use Rattle.sopl_types.proofs.names.Names.entity.Goals as goal

-- a name of the list
pub returns-then-has : goal.returns-then-has
returns-then-has c = sym (bound_there (λ name. name.now) c.args.self.now.bound.names.items c.args.name.now (known_outside c.args.self.now.outer) (sym c.has.ensures ∙ c.if-has.true))

-- another
pub returns : goal.returns
returns c =
    c.entity.ensures
    ∙ sym (bound_not_there (λ name. name.now) c.args.self.now.bound.names.items c.args.name.now (known_outside c.args.self.now.outer) (sym c.has.ensures ∙ c.if-has.false))
