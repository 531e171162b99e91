use Rattle.std.proofs.Common.{refl}
use Rattle.compile_laws.proofs.worked.worked_terms.Goals as goal

pub returns : goal.returns
returns c =
    record { cells = refl; later_cells = refl; inside = refl; outside = refl; never = refl; quotient = refl; by_zero = refl; sum = refl; worth = refl }
