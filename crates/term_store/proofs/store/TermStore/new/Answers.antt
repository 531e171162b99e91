use Rattle.std.proofs.Common.{arith, ap, length}
use Rattle.box_problem.proofs.Shared.{made_box}
use Rattle.term_store.proofs.Adding.{none_built}
use Rattle.term_store.proofs.store.TermStore.new.Goals as goal

pub returns-clause-sound : goal.returns-clause-sound
returns-clause-sound c = record {
  root_is_box = made_box c.args.roots.now c.in_ok-lows.lows.items c.in_ok-highs.highs.items c.in_ok-lows.ensures c.in_ok-highs.ensures;
  built = none_built _ _ c.new.ensures.items;
  few = omega (arith, ap length c.new.ensures.items);
}
