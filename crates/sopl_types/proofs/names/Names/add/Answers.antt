use Rattle.std.proofs.Common.{ap, ◌∙◌, [], ◌∷◌, ◌++◌, map}
use Rattle.sopl_types.specs.Entered.{bound_over}
use Rattle.sopl_types.specs.Known.{known_outside}
use Rattle.sopl_types.proofs.Scopes.{bound_push}
use Rattle.sopl_types.proofs.names.Names.add.Goals as goal

-- the name stands before the others
pub returns : goal.returns
returns c =
    ap (λ xs. bound_over (map (λ name. name.now) xs) (known_outside c.args.self.now.outer))
    (c.in_ok-self.ensures ∙ ap (λ bound. bound.names.items ++ c.args.name ∷ []) c.replace-bound.ensures.value)
    ∙ bound_push (λ name. name.now) c.args.self.now.bound.names.items c.args.name (known_outside c.args.self.now.outer)
