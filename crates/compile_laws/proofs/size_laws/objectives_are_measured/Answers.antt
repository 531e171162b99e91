use Rattle.compile_laws.proofs.Measuring as m
use Rattle.compile_laws.proofs.size_laws.objectives_are_measured.Goals as goal

pub returns : goal.returns
returns c = record { allowed = m.goal_is_allowed; refused = m.goal_is_refused }
