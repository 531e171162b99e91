use Rattle.std.proofs.Common.{sym, ap, ◌∙◌}
use Rattle.sopl_ast.specs.Mistakes.{entity_of}
use Rattle.sopl_types.specs.Known.{known_outside}
use Rattle.sopl_types.proofs.Scopes.{bound_there, bound_not_there}
use Rattle.sopl_types.proofs.names.Outer.+entity.Goals as goal

-- a name of the list
pub returns-then-has : goal.returns-then-has
returns-then-has t c =
    sym (ap (λ outer. entity_of (known_outside outer) c.args.name.now) c.in-Inside.is
    ∙ bound_there (λ name. name.now) c.in-Inside.bound.now.names.items c.args.name.now (known_outside c.in-Inside.outer.now) (sym c.has.ensures ∙ c.if-has.true))

-- another
pub returns-else-has : goal.returns-else-has
returns-else-has t c =
    c.entity-in-Inside.ensures
    ∙ sym (ap (λ outer. entity_of (known_outside outer) c.args.name.now) c.in-Inside.is
    ∙ bound_not_there (λ name. name.now) c.in-Inside.bound.now.names.items c.args.name.now (known_outside c.in-Inside.outer.now) (sym c.has.ensures ∙ c.if-has.false))
