use Rattle.term_language.proofs.Tasks as lemmas
use Rattle.term_language.proofs.laws.tasks_fit_at_all_times.Goals as goal

pub returns : goal.returns
returns c = record { law = lemmas.tasks_fit_at_all_times }
