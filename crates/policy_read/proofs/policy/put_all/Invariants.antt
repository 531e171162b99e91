use Rattle.std.proofs.Common.{◌≡◌, drop}
use Rattle.policy_read.specs.Policies.{put_all_at}
use Rattle.policy_read.proofs.policy.put_all.Given as goal

abbrev pub invariant-values : goal.invariant-values
invariant-values l = put_all_at (drop l.i l.told) l.values.items ≡ put_all_at l.told l.fn.values.items
