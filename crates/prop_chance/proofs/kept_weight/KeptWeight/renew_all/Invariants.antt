use Rattle.std.proofs.Common.{◌≡◌, length}
use Rattle.term_program.specs.Programs.{problem_in, root_in}
use Rattle.prop_chance.specs.KeptWeights.{IsWeightSeen}
use Rattle.prop_chance.specs.UpToDate.{AreListed, left_to_see}
use Rattle.prop_chance.proofs.kept_weight.KeptWeight.renew_all.Given as goal

abbrev pub invariant-scenarios : goal.invariant-scenarios
invariant-scenarios l = record {
  seen : IsWeightSeen (root_in l.program) (problem_in l.program) l.instance l.store.box l.self;
  listed : AreListed l.self.outdated;
  room : length l.self.truths.items ≡ length l.fn.self.truths.items;
  waits : length l.self.outdated.waits.items ≡ length l.fn.self.outdated.waits.items;
}

abbrev pub decreases-scenarios : goal.decreases-scenarios
decreases-scenarios l = left_to_see l.self.outdated
