use Rattle.std.proofs.Common.{◌≡◌}
use Rattle.policy_json.proofs.Kept.{numbers_so_far}
use Rattle.policy_json.proofs.stages.numbers_of.Given as goal

abbrev pub invariant-decisions : goal.invariant-decisions
invariant-decisions l = l.found.items ≡ numbers_so_far l.stage l.decisions l.number
