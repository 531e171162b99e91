use Rattle.std.proofs.Common.{◌∙◌, ◌<◌, ◌≤◌, ◌^◌, ℤ, ◌≤ℤ◌, pos, List, length, ap, sym, subst}
use Rattle.std.specs.List.{AllByRecursion}
use Rattle.sopl_ast.specs.Instances.{Decision}
use Rattle.sopl_ast.specs.WholeModel.{whole}
use Rattle.sopl_base.specs.declared.interval.Interval.{Interval}
use Rattle.sopl_term.specs.Built.{problem_built}
use Rattle.unfold_laws.proofs.Whole.{decisions_are_bounded}
use Rattle.unfold_laws.specs.Bounds.{IsBoundedDecision}
use Rattle.sopl_compile.proofs.Allowed.{few_domains, few_scenarios, light}
use Rattle.sopl_compile.proofs.Made.{some_weight, weights_weigh, whole_is}
use Rattle.sopl_compile.proofs.Weights.{bare_is, weights_few, weights_light, weights_own}
use Rattle.sopl_compile.proofs.start.begun.Goals as goal
use Rattle.sopl_unfold.specs.GroundProblem.{ground_problem}

pub cell_domains-requires-clause-bounded : goal.cell_domains-requires-clause-bounded
cell_domains-requires-clause-bounded c =
    subst (λ (ds : List Decision). AllByRecursion IsBoundedDecision ds) (sym c.requires.setting.decisions)
    (decisions_are_bounded (whole c.args.ground.now.typed.model) c.args.ground.now.unfolded.passes)

pub new-requires-clause-few_cells : goal.new-requires-clause-few_cells
new-requires-clause-few_cells c =
    subst (λ (list : List Interval). length list < 2 ^ 32) (sym c.as_slice.ensures.value)
    (few_domains (ground_problem c.args.ground.now) c.requires.within c.args.setting.now c.in_ok-domains.domains.items c.requires.setting c.in_ok-domains.ensures.root)

pub new-requires-clause-first : goal.new-requires-clause-first
new-requires-clause-first c =
    subst (λ (list : List ℤ). 1 ≤ length list)
    (sym (weights_own (ground_problem c.args.ground.now) c.args.setting.now c.requires.laid_out c.requires.setting c.as_slice-2.result.now
    (c.as_slice-2.ensures.value ∙ c.in_ok-weights.ensures.weights)))
    (some_weight (whole c.args.ground.now.typed.model) c.args.ground.now.typed.origin c.args.ground.now.unfolded.passes)

pub new-requires-clause-few_scenarios : goal.new-requires-clause-few_scenarios
new-requires-clause-few_scenarios c =
    weights_few (ground_problem c.args.ground.now) c.args.setting.now c.requires.laid_out c.requires.setting c.as_slice-2.result.now
    (c.as_slice-2.ensures.value ∙ c.in_ok-weights.ensures.weights) (few_scenarios (ground_problem c.args.ground.now) c.requires.within)

pub new-requires-clause-weighs : goal.new-requires-clause-weighs
new-requires-clause-weighs c =
    subst (λ (list : List ℤ). AllByRecursion (λ weight. pos 1 ≤ℤ weight) list)
    (sym (weights_own (ground_problem c.args.ground.now) c.args.setting.now c.requires.laid_out c.requires.setting c.as_slice-2.result.now
    (c.as_slice-2.ensures.value ∙ c.in_ok-weights.ensures.weights)))
    (weights_weigh (whole c.args.ground.now.typed.model) c.args.ground.now.typed.origin c.args.ground.now.unfolded.passes)

pub new-requires-clause-light : goal.new-requires-clause-light
new-requires-clause-light c =
    weights_light (ground_problem c.args.ground.now) c.args.setting.now c.requires.laid_out c.requires.setting c.as_slice-2.result.now
    (c.as_slice-2.ensures.value ∙ c.in_ok-weights.ensures.weights)
    (whole_is (whole c.args.ground.now.typed.model) c.args.ground.now.typed.origin c.args.ground.now.unfolded.passes)
    (light (ground_problem c.args.ground.now) c.requires.within)

pub returns-clause-problem : goal.returns-clause-problem
returns-clause-problem c =
    ap problem_built c.new-2.ensures.builder
    ∙ (c.in_ok-builder.ensures.problem
    ∙ bare_is (ground_problem c.args.ground.now) c.args.setting.now c.requires.laid_out c.requires.setting c.as_slice-2.result.now
    (c.as_slice-2.ensures.value ∙ c.in_ok-weights.ensures.weights) (whole_is (whole c.args.ground.now.typed.model) c.args.ground.now.typed.origin c.args.ground.now.unfolded.passes))
