use Rattle.std.proofs.Common.{rules, ◌∙◌, ◌<◌, ◌≤◌, ◌^◌, ℕ, length, slice_index_or, refl, sym, ap, subst}
use Rattle.std.proofs.lemmas.List.Elements.{All-from_recursion}
use Rattle.sopl_ast.specs.Cells.{IsPoint, cells}
use Rattle.sopl_ast.specs.Instances.{Problem}
use Rattle.sopl_ast.specs.WholeModel.{whole}
use Rattle.unfold_laws.specs.Bounds.{IsBoundedDecision}
use Rattle.sopl_policy.specs.Laid.{cells_end, laid_firsts}
use Rattle.sopl_policy.proofs.Keeping.{all_within, bounded_in, ends_there, kept_for}
use Rattle.sopl_policy.proofs.policy.policy_of.Goals as goal
use Rattle.sopl_unfold.specs.GroundProblem.{ground_problem}

pub first_cells-requires-clause-staged : goal.first_cells-requires-clause-staged
first_cells-requires-clause-staged c =
    let bounded = bounded_in (whole c.args.ground.now.typed.model) c.args.ground.now.unfolded.passes c.decisions.result.now c.decisions.ensures.decisions in
    λ k d within. (All-from_recursion IsBoundedDecision c.decisions.result.now bounded k d within).stage

pub first_cells-requires-clause-few : goal.first_cells-requires-clause-few
first_cells-requires-clause-few c =
    let few : length c.args.cells.now < 2 ^ 64 = search rules in
    let problem : Problem = ground_problem c.args.ground.now in
    let bounded = bounded_in (whole c.args.ground.now.typed.model) c.args.ground.now.unfolded.passes problem.decisions refl in
    subst (λ ds. cells_end c.args.tree.now 0 ds < 2 ^ 64) (sym c.decisions.ensures.decisions)
    (subst (λ n. n < 2 ^ 64) (sym (ends_there problem c.args.tree.now c.args.cells.now c.requires.tree bounded c.requires.point)) few)

pub invariant_of-result : goal.invariant_of-result
invariant_of-result c =
    let problem : Problem = ground_problem c.args.ground.now in
    let bounded = bounded_in (whole c.args.ground.now.typed.model) c.args.ground.now.unfolded.passes problem.decisions refl in
    subst (λ vs. (k : ℕ) → slice_index_or c.in_ok-firsts.firsts.items k 0 ≤ length vs) (sym c.in_ok-values.ensures.items)
    (all_within problem c.args.tree.now c.in_ok-firsts.firsts.items c.args.cells.now c.requires.tree bounded
    (c.in_ok-firsts.ensures ∙ ap (laid_firsts c.args.tree.now 0) c.decisions.ensures.decisions) c.requires.point)

pub returns-clause-policy : goal.returns-clause-policy
returns-clause-policy c =
    let problem : Problem = ground_problem c.args.ground.now in
    let bounded = bounded_in (whole c.args.ground.now.typed.model) c.args.ground.now.unfolded.passes problem.decisions refl in
    kept_for problem c.args.tree.now (record { firsts = c.in_ok-firsts.firsts.items; values = c.in_ok-values.values.items }) c.requires.tree bounded
    (c.in_ok-firsts.ensures ∙ ap (laid_firsts c.args.tree.now 0) c.decisions.ensures.decisions)
    (subst (IsPoint (cells problem)) (sym c.in_ok-values.ensures.items) c.requires.point)
