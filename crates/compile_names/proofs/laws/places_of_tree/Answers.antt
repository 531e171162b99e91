use Rattle.compile_names.proofs.TreePlaces.{places_of_tree}
use Rattle.compile_names.proofs.laws.places_of_tree.Goals as goal

pub returns : goal.returns
returns c = record { law = places_of_tree }
