use Rattle.compile_laws.proofs.Stands.{arrays_stand, scenarios_are_whole}
use Rattle.compile_laws.proofs.Whole.{texts_are_arrays}
use Rattle.compile_laws.proofs.laws.arrays_stand.Goals as goal

pub returns : goal.returns
returns c = record { law = arrays_stand; whole = scenarios_are_whole; texts = texts_are_arrays }
