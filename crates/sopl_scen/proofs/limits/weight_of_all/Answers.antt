use Rattle.std.proofs.Common.{pos, ◌≤ℤ◌, subst}
use Rattle.sopl_base.specs.declared.codes.TheConstants as codes
use Rattle.sopl_ast.specs.Limits.{usual_limits}
use Rattle.unfold_laws.specs.Bounds.{IsBoundedStochastic}
use Rattle.scen_laws.specs.Laws.{HasOutcome, weight_factor}
use Rattle.sopl_scen.proofs.Parts.{one_of}
use Rattle.sopl_scen.proofs.Runs.{run_next}
use Rattle.sopl_scen.proofs.limits.weight_of_all.Goals as goal

pub weight_of-total-requires-clause-has_outcomes : goal.weight_of-total-requires-clause-has_outcomes
weight_of-total-requires-clause-has_outcomes c = one_of HasOutcome c.args.stochs.now c.stochs.stoch-index c.stoch-item.result c.requires.has_outcomes c.stochs-test.true c.stoch-item.is

pub stochs-preserved : goal.stochs-preserved
stochs-preserved c =
    run_next codes.WEIGHT usual_limits.weight weight_factor c.args.stochs.now c.stochs.stoch-index c.stoch-item.result c.stochs.product.value c.weight_of-total.result.value
    c.in_ok-product.product.value c.stochs-test.true c.stoch-item.is c.weight_of-total.ensures.value
    (subst (λ z. pos 1 ≤ℤ z) c.weight_of-total.ensures.value c.weight_of-total.ensures.least)
    c.in_ok-product.ensures.ok.0 c.in_ok-product.ensures.ok.1 c.stochs.invariant

pub weight_of-total-requires-clause-bounded : goal.weight_of-total-requires-clause-bounded
weight_of-total-requires-clause-bounded c = one_of IsBoundedStochastic c.args.stochs.now c.stochs.stoch-index c.stoch-item.result c.requires.bounded c.stochs-test.true c.stoch-item.is
