use Rattle.compile_laws.proofs.WellMade.{problems_are_well_made, texts_are_lawful}
use Rattle.compile_laws.proofs.laws.problems_are_well_made.Goals as goal

pub returns : goal.returns
returns c = record { law = problems_are_well_made; lawful = texts_are_lawful }
