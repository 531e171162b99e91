use Rattle.std.proofs.Common.{take}
use Rattle.prop_linear.proofs.Summing.{AreOpen}
use Rattle.prop_linear.proofs.balances.Balance.first_step.Given as goal

abbrev pub invariant-parts : goal.invariant-parts
invariant-parts l = AreOpen l.self.difference (take l.part-index l.self.difference.parts.now)
