use Rattle.std.proofs.Common.{◌≡◌, ◌++◌}
use Rattle.unfold_declarations.proofs.sets.listed.Given as goal

abbrev pub invariant-set : goal.invariant-set
invariant-set l = l.numbers.items ++ l.number-iterator ≡ l.set.keys
