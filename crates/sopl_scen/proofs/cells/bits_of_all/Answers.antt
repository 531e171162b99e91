use Rattle.std.proofs.Common.{rules, sym, subst, ◌≤◌, ◌^◌, length, unsigned_abs}
use Rattle.sopl_scen.proofs.CellSteps.{next_bounded, summed_next, summed_small}
use Rattle.sopl_scen.proofs.cells.bits_of_all.Goals as goal

pub decisions-preserved : goal.decisions-preserved
decisions-preserved c =
    summed_next c.args.stages.now c.args.decisions.now c.decisions.total.value c.bits_of.result.value c.plus-total.result.value c.decisions.decision-index
    c.decision-item.result c.decisions-test.true c.decision-item.is c.bits_of.ensures.few c.bits_of.ensures.value c.plus-total.ensures.sum c.decisions.invariant

pub bits_of-requires-clause-bounded : goal.bits_of-requires-clause-bounded
bits_of-requires-clause-bounded c =
    next_bounded c.args.decisions.now c.decisions.decision-index c.decision-item.result c.decisions-test.true c.decision-item.is c.decisions.invariant.bounded

pub plus-total-requires : goal.plus-total-requires
plus-total-requires c =
    let small : unsigned_abs c.decisions.total.value ≤ 2 ^ 100 =
    summed_small c.decisions.total.value c.decisions.decision-index (length c.args.decisions.now) c.decisions.invariant.few c.decisions-test.true c.requires.few in
    let few : unsigned_abs c.bits_of.result.value ≤ 2 ^ 40 = subst (λ z. unsigned_abs z ≤ 2 ^ 40) (sym c.bits_of.ensures.value) c.bits_of.ensures.few in
    record { fits = search rules }
