use Rattle.std.proofs.Common.{refl}
use Rattle.compile_laws.proofs.size_vectors.worked_subterms.Goals as goal

pub returns : goal.returns
returns c =
    record { products = refl; chain = refl; element = refl; extreme = refl; number = refl; comparison = refl; logic = refl; tasks = refl }
