use Rattle.std.proofs.Common.{take}
use Rattle.prop_core.specs.Waking.{AreWoken}
use Rattle.prop_core.proofs.waking.let_wait.Given as goal

abbrev pub invariant-places : goal.invariant-places
invariant-places l = AreWoken (take l.place-index l.places) l.fn.waits l.waits
