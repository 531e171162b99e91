use Rattle.scen_accept.proofs.Rejected.{texts_end_once}
use Rattle.scen_accept.proofs.laws.texts_end_once.Goals as goal

pub returns : goal.returns
returns c = texts_end_once
