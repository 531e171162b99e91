use Rattle.std.proofs.Common.{◌≡◌, ◌+◌, drop}
use Rattle.scen_laws.specs.Laws.{seen_before}
use Rattle.sopl_scen.proofs.stages.seen_before.Given as goal

abbrev pub invariant-stochs : goal.invariant-stochs
invariant-stochs l = seen_before l.stage l.stochs ≡ l.i + seen_before l.stage (drop l.i l.stochs)
