use Rattle.policy_read.proofs.RoundTrip.{printed_is_read, policy_texts_are_read}
use Rattle.policy_read.proofs.Small.{prints_in_form}
use Rattle.policy_read.proofs.laws.printed_is_read.Goals as goal

pub returns : goal.returns
returns c = record { node = printed_is_read; text = policy_texts_are_read; form = prints_in_form }
