use Rattle.std.proofs.Common.{◌∙◌, sym}
use Rattle.prop_alldiff.proofs.Stepping.{removes}
use Rattle.prop_alldiff.proofs.long_steps.tested.Goals as goal

pub returns-clause-right : goal.returns-clause-right
returns-clause-right c =
    removes c.args.probe.now c.args.end.now c.args.removal.now c.step.result c.requires.end c.requires.at_least_one c.requires.fewer (sym c.if-not-closes.false ∙ c.closes.ensures)
    c.step.ensures
