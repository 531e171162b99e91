use Rattle.std.proofs.Common.{pos, ◌≤ℤ◌, subst}
use Rattle.sopl_base.specs.declared.codes.TheConstants as codes
use Rattle.sopl_ast.specs.Limits.{usual_limits}
use Rattle.scen_laws.specs.Laws.{HasOutcome, count_factor}
use Rattle.sopl_scen.proofs.Parts.{one_of}
use Rattle.sopl_scen.proofs.Runs.{run_next}
use Rattle.sopl_scen.proofs.limits.count_of_all.Goals as goal

pub count_of-outcomes-requires : goal.count_of-outcomes-requires
count_of-outcomes-requires c = record { has_outcomes = one_of HasOutcome c.args.stochs.now c.stochs.stoch-index c.stoch-item.result c.requires.has_outcomes c.stochs-test.true c.stoch-item.is }

pub stochs-preserved : goal.stochs-preserved
stochs-preserved c =
    run_next codes.SCENARIOS usual_limits.scenarios count_factor c.args.stochs.now c.stochs.stoch-index c.stoch-item.result c.stochs.product.value c.count_of-outcomes.result.value
    c.in_ok-product.product.value c.stochs-test.true c.stoch-item.is c.count_of-outcomes.ensures.value
    (subst (λ z. pos 1 ≤ℤ z) c.count_of-outcomes.ensures.value c.count_of-outcomes.ensures.least)
    c.in_ok-product.ensures.ok.0 c.in_ok-product.ensures.ok.1 c.stochs.invariant
