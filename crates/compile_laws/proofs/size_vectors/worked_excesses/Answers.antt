use Rattle.std.proofs.Common.{refl}
use Rattle.compile_laws.proofs.size_vectors.worked_excesses.Goals as goal

pub returns : goal.returns
returns c =
    record {
      large = refl;
      at_most = refl;
      one_more = refl;
      left_part = refl;
      operand = refl;
      cancelled = refl;
      hards_first = refl;
      chances_next = refl;
      scenarios = refl;
      objective = refl;
      objective_at_most = refl;
      objective_cut_off = refl;
      worst = refl;
      objective_last = refl;
      none = refl;
      text = refl;
    }
