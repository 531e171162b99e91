use Rattle.sopl_io.proofs.Gathering.{gathered_behind}
use Rattle.sopl_io.proofs.gather_laws.fails_behind.Goals as goal

pub returns : goal.returns
returns c = record { law = gathered_behind }
