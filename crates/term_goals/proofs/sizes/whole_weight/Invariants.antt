use Rattle.std.proofs.Common.{◌≡◌, drop}
use Rattle.term_language.specs.Globals.{total}
use Rattle.term_goals.proofs.sizes.whole_weight.Given as goal

abbrev pub invariant-loop-i : goal.invariant-loop-i
invariant-loop-i l = l.sum.value ≡ total (drop l.i l.weights)
