use Rattle.compile_laws.proofs.Searched.{unbeaten_is_optimal, unreached_is_infeasible}
use Rattle.compile_laws.proofs.laws.searches_find_policies.Goals as goal

pub returns : goal.returns
returns c = record { optimal = unbeaten_is_optimal; infeasible = unreached_is_infeasible }
