-- The mistakes of a whole model.
use Rattle.std.proofs.Common.{◌≡◌, sym, ap, ◌∙◌, subst, ◌++◌, None, Some, rules}
use Rattle.sopl_base.specs.declared.fault.Refusal.{Refusal}
use Rattle.sopl_ast.specs.Whole.{ModelTree, conses}
use Rattle.sopl_ast.specs.Mistakes.{Scope, no_names, of_declarations, declare_all, of_goal, of_constraints, of_model, IsWellTyped, IsFirstMistake, IsNoLater}
use Rattle.sopl_types.specs.Earliest.{earlier_of, earliest}
use Rattle.sopl_types.proofs.EarliestLemmas.{earliest_both}
use Rattle.sopl_types.proofs.FirstLemmas.{earliest_none, earliest_some}
use Rattle.sopl_types.proofs.Scopes.{Same, same_scope}

-- the first mistake of declarations, of the objective and of constraints, over names that say the same
pub whole_model : (model : ModelTree) (scope : Scope) → Same scope (declare_all model.decls no_names) →
    earlier_of (earliest (of_declarations no_names model.decls)) (earliest (of_goal scope model.goal ++ of_constraints scope (conses model.body)))
    ≡ earliest (of_model model)
whole_model model scope same =
    let all = declare_all model.decls no_names in
    ap (earlier_of (earliest (of_declarations no_names model.decls)))
    (ap (λ known. earliest (of_goal known model.goal ++ of_constraints known (conses model.body))) (same_scope scope all same))
    ∙ sym (earliest_both (of_declarations no_names model.decls) (of_goal all model.goal ++ of_constraints all (conses model.body)))

pub well_typed : (model : ModelTree) → None ≡ earliest (of_model model) → IsWellTyped model
well_typed model h = earliest_none (of_model model) (sym h)

pub first_refused : (model : ModelTree) (r : Refusal) → Some r ≡ earliest (of_model model) → IsFirstMistake model r
first_refused model r h =
    let f = earliest_some (of_model model) r (sym h) in
    record { among = f.among; first = λ other there. subst (λ x. IsNoLater r x) there.2 (f.least there.0 other there.1) }

pub not_refused : (model : ModelTree) (r : Refusal) → Some r ≡ earliest (of_model model) → IsWellTyped model → ⊥
not_refused model r h well =
    let none : Some r ≡ None = h ∙ ap earliest well in
    search rules

pub ruleset outcomes = (well_typed, first_refused, not_refused)
