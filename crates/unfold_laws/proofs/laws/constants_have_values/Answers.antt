use Rattle.sopl_ast.specs.Tree.{place_of}
use Rattle.unfold_laws.proofs.Passing.{value_given}
use Rattle.unfold_laws.proofs.laws.constants_have_values.Goals as goal

pub returns : goal.returns
returns c = record { law = λ known e passes. value_given known (place_of e) e passes }
