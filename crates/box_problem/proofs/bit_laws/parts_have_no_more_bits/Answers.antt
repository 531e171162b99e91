use Rattle.box_problem.proofs.Bits as lemmas
use Rattle.box_problem.proofs.bit_laws.parts_have_no_more_bits.Goals as goal

pub returns : goal.returns
returns c = record { law = lemmas.parts_have_no_more_bits }
