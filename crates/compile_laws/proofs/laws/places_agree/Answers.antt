use Rattle.compile_laws.proofs.Problems.{places_agree}
use Rattle.compile_laws.proofs.laws.places_agree.Goals as goal

pub returns : goal.returns
returns c = record { law = places_agree }
