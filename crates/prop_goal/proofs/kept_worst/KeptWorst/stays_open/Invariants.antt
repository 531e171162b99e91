use Rattle.std.proofs.Common.{take}
use Rattle.std.specs.List.{All}
use Rattle.prop_goal.specs.KeptWorst.{IsBetterWith}
use Rattle.prop_goal.proofs.kept_worst.KeptWorst.stays_open.Given as goal

abbrev pub invariant-scenarios : goal.invariant-scenarios
invariant-scenarios l =
    All (IsBetterWith l.probe.program.now l.self.parts.atoms.items l.probe.store.now.box l.best.value l.end.cell) (take l.number-index l.numbers)
