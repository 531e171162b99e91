use Rattle.std.proofs.Common.{◌≡◌, rules, true}
use Rattle.prop_goal.proofs.Scenarios.{once_at, surely_with, tried_with}
use Rattle.prop_goal.proofs.kept_worst.KeptWorst.leaves_open.Goals as goal

pub is_better_at_ends-requires-clause-once : goal.is_better_at_ends-requires-clause-once
is_better_at_ends-requires-clause-once c =
    once_at c.args.probe.now.program.now c.args.self.now.parts.atoms.items c.args.number c.index-2.result.now c.requires.fits.are c.requires.exists c.index-2.ensures

pub returns-then-is_surely_better : goal.returns-then-is_surely_better
returns-then-is_surely_better c =
    let q = c.args.probe.now in
    let k = c.args.self.now.parts in
    let met : c.is_surely_better.result ≡ true = search rules in
    record {
      better = λ is.
          surely_with q k c.args.number c.args.end.now.cell c.args.best.value c.index.result.now c.requires.asked c.requires.fits.one_each c.requires.seen c.requires.exists c.index.ensures
          c.requires.end.exists (λ part a are within. c.is_surely_better.ensures.better q.store.now.box part a are within met);
    }

pub returns : goal.returns
returns c = record {
  better = λ is.
      tried_with c.args.probe.now c.args.self.now.parts.atoms.items c.args.number c.args.end.now.cell c.args.best.value c.index-2.result.now c.requires.exists c.index-2.ensures
      (c.is_better_at_ends.ensures.to_low is) (c.is_better_at_ends.ensures.to_high is);
}
