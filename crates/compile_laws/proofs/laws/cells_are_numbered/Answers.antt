use Rattle.compile_laws.proofs.Numbers.{cells_are_numbered, numbers_are_one}
use Rattle.compile_laws.proofs.laws.cells_are_numbered.Goals as goal

pub returns : goal.returns
returns c = record { law = cells_are_numbered; one = numbers_are_one }
