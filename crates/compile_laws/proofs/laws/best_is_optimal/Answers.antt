use Rattle.compile_laws.proofs.Best.{best_is_optimal, none_is_infeasible}
use Rattle.compile_laws.proofs.laws.best_is_optimal.Goals as goal

pub returns : goal.returns
returns c = record { optimal = best_is_optimal; infeasible = none_is_infeasible }
