use Rattle.policy_read.proofs.Indices.{accepted_are_readable}
use Rattle.policy_read.proofs.RoundTrip.{accepted_are_read}
use Rattle.policy_read.proofs.laws.accepted_are_read.Goals as goal

pub returns : goal.returns
returns c = record { readable = accepted_are_readable; read = accepted_are_read }
