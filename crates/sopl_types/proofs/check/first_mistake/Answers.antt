use Rattle.std.proofs.Common.{ap, ◌∙◌}
use Rattle.sopl_ast.specs.Mistakes.{entity_of, no_names, of_declarations, declare_all}
use Rattle.sopl_ast.specs.WholeModel.{whole}
use Rattle.sopl_types.specs.Earliest.{earlier_of, earliest}
use Rattle.sopl_types.specs.Entered.{declared_in}
use Rattle.sopl_types.proofs.Scopes.{Same}
use Rattle.sopl_types.proofs.Whole.{whole_model}
use Rattle.sopl_types.proofs.check.first_mistake.Goals as goal

-- the mistakes of the declarations, and those behind them
pub returns : goal.returns
returns c =
    let scope = declared_in c.in_ok-all.all.declared in
    let same : Same scope (declare_all c.args.model.now.decls no_names) =
    λ name. c.in_ok-all.ensures.names name ∙ ap (λ ds. entity_of (declare_all ds no_names) name) c.as_slice.ensures.items in
    c.earlier.ensures
    ∙ (λ i. earlier_of ((c.in_ok-all.ensures.first ∙ ap (λ ds. earliest (of_declarations no_names ds)) c.as_slice.ensures.items) i) (c.in_ok-later.ensures i))
    ∙ whole_model (whole c.args.model.now) scope same
