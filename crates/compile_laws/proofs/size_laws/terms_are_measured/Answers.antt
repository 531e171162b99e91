use Rattle.compile_laws.proofs.Measuring as m
use Rattle.compile_laws.proofs.size_laws.terms_are_measured.Goals as goal

pub returns : goal.returns
returns c = record { none = m.none_is_large; first = m.first_is_found; in_turn = m.large_in_turn; faults = m.faults_in_turn; ends = m.faults_end }
