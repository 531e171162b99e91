use Rattle.log_check.proofs.Checking as lemmas
use Rattle.log_check.proofs.laws.smaller_logs_have_room.Goals as goal

pub returns : goal.returns
returns c = record { law = lemmas.smaller_logs_have_room }
