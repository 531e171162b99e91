use Rattle.compile_laws.proofs.Root.{points_of_box, root_is_box}
use Rattle.compile_laws.proofs.laws.points_of_box.Goals as goal

pub returns : goal.returns
returns c = record { law = points_of_box; root = root_is_box }
