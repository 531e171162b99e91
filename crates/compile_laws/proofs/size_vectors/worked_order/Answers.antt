use Rattle.std.proofs.Common.{refl}
use Rattle.compile_laws.proofs.size_vectors.worked_order.Goals as goal

pub returns : goal.returns
returns c = record { problem = refl }
