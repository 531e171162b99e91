use Rattle.box_problem.proofs.Bits as lemmas
use Rattle.box_problem.proofs.bit_laws.middles_take_a_bit.Goals as goal

pub returns : goal.returns
returns c = record { law = lemmas.middles_take_a_bit }
