use Rattle.std.proofs.Common.{◌≡◌, take}
use Rattle.sopl_compile.proofs.start.weights_of.Given as goal

abbrev pub invariant-scenarios : goal.invariant-scenarios
invariant-scenarios l = l.list.items ≡ take l.scenario l.tree.weights
