use Rattle.term_goals.proofs.Weights.{total_fits}
use Rattle.term_goals.proofs.sizes.whole_weight.Goals as goal

pub plus-sum-requires : goal.plus-sum-requires
plus-sum-requires c = record {
  fits = total_fits c.args.weights.now c.loop-i.i c.scenario_weight-weight.result.value c.loop-i.sum.value c.requires.weights c.loop-i-test.true c.loop-i.auto.i c.scenario_weight-weight.ensures
      c.loop-i.invariant;
}
