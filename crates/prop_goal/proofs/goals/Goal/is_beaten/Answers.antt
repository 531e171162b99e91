use Rattle.std.proofs.Common.{◌≡◌, length, rules, subst, true}
use Rattle.prop_chance.specs.KeptWeights.{IfSo}
use Rattle.prop_goal.specs.Goals.{KnowsGoal}
use Rattle.prop_goal.proofs.goals.Goal.is_beaten.Goals as goal

pub is_beaten-requires-clause-fits : goal.is_beaten-requires-clause-fits
is_beaten-requires-clause-fits c = (length c.args.self.now.watched.cells.items, c.requires.fits.kept)

pub is_beaten-requires-clause-known : goal.is_beaten-requires-clause-known
is_beaten-requires-clause-known c =
    let p = c.args.self.now in
    let q = c.args.probe.now in
    let met : c.args.known ≡ true = search rules in
    (p.watched.cells.items, subst (λ t. IfSo t (KnowsGoal p.kept q.program.now p.watched.cells.items q.store.now.box)) met c.requires.known)
