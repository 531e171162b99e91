use Rattle.sopl_search.proofs.StateSteps as lemmas
use Rattle.sopl_search.proofs.crew_laws.runs_are_logs.Goals as goal

pub returns : goal.returns
returns c = record { law = lemmas.runs_are_logs }
