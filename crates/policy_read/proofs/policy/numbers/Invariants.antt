use Rattle.std.proofs.Common.{◌≡◌}
use Rattle.policy_read.specs.Policies.{numbers_below}
use Rattle.policy_read.proofs.policy.numbers.Given as goal

abbrev pub invariant-numbers : goal.invariant-numbers
invariant-numbers l = l.found.items ≡ numbers_below l.number
