use Rattle.term_crowds.proofs.Truths as lemmas
use Rattle.term_crowds.proofs.laws.task_intervals_ordered.Goals as goal

pub returns : goal.returns
returns c = record { law = lemmas.ordered_tasks }
