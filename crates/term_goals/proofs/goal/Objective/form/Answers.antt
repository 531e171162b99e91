use Rattle.std.proofs.Common.{length}
use Rattle.term_math.specs.Shown.{box_in, form_of}
use Rattle.term_math.specs.Sums.{combination_of}
use Rattle.term_nodes.specs.Things.{things}
use Rattle.term_nodes.proofs.Steps.{cond_back}
use Rattle.term_goals.proofs.Summing.{form_back}
use Rattle.term_goals.proofs.goal.Objective.form.Goals as goal

pub form_at-requires : goal.form_at-requires
form_at-requires c = record {
  exists = cond_back (length c.args.here.now.items.now) c.args.self.now.terms.now c.loop-i.i 0 c.requires.exist c.loop-i-test.true c.loop-i.auto.i;
}

pub add-requires : goal.add-requires
add-requires c = record {
  room = form_back (box_in c.args.here.now.root) (things c.args.here.now.items.now) c.args.self.now.weights.now c.args.self.now.terms.now c.loop-i.i 0 c.scenario_weight-weight.result.value
      (combination_of c.loop-i.sum) (form_of c.form_at.result.now)
      c.requires.weights c.requires.small c.requires.each c.loop-i-test.true c.loop-i.auto.i c.scenario_weight-weight.ensures c.loop-i.invariant
      (c.form_at.ensures (box_in c.args.here.now.root) c.requires.ready.built);
}
