use Rattle.std.proofs.Common.{◌≡◌, rules, true}
use Rattle.prop_shave.proofs.AtEnds.{better_at_ends}
use Rattle.prop_shave.proofs.probes.Probe.is_better_at_ends.Goals as goal

pub returns : goal.returns
returns c =
    let met : c.is_better_with-at_low.result ≡ true = search rules in
    record {
      stays = λ is.
          better_at_ends c.args.self.now c.args._atoms.now c.args.end.value c.args._cell c.args.best.value c.args.turns.now c.requires.asked c.requires.reason c.requires.are c.requires.end c.requires.best
          c.requires.turns
          (c.is_better_with-at_low.ensures met) (c.is_better_with.ensures is);
    }
