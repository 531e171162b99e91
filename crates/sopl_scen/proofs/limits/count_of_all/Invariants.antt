use Rattle.std.proofs.Common.{drop}
use Rattle.sopl_base.specs.declared.codes.TheConstants as codes
use Rattle.sopl_ast.specs.Limits.{usual_limits}
use Rattle.scen_laws.specs.Laws.{count_factor}
use Rattle.sopl_scen.proofs.Runs.{IsRun}
use Rattle.sopl_scen.proofs.limits.count_of_all.Given as goal

abbrev pub invariant-stochs : goal.invariant-stochs
invariant-stochs l = IsRun codes.SCENARIOS usual_limits.scenarios count_factor l.stochs l.product.value (drop l.stoch-index l.stochs)
