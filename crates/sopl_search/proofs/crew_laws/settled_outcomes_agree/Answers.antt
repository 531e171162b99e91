use Rattle.sopl_search.proofs.Agreeing as lemmas
use Rattle.sopl_search.proofs.crew_laws.settled_outcomes_agree.Goals as goal

pub returns : goal.returns
returns c = record { law = lemmas.settled_outcomes_agree }
