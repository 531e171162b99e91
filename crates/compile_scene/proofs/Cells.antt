-- The cells of decisions exist.
use Rattle.std.proofs.Common.{arith, ◌≡◌, sym, ap, ◌∙◌, ℕ, ◌<◌, pos, List, [], length, get_or, slice_get, Some}
use Rattle.std.proofs.lemmas.Option.{slice_get-get_or, slice_get_within}
use Rattle.sopl_ast.specs.Histories.{history}
use Rattle.sopl_ast.specs.Instances.{Decision, Stochastic}
use Rattle.sopl_ast.specs.Scenarios.{Scenario, scenarios}
use Rattle.sopl_scen.specs.Layout.{IsTreeOf, Layout, cell_at, cell_in, cells_for, count_in, decisions_in}
use Rattle.compile_names.specs.Variables.{no_decision}

-- a scenario, in place of one that is not there
abbrev no_scenario : Scenario
no_scenario = record { weight = pos 0; values = [] }

pub cell_exists : (ds : List Decision) (ss : List Stochastic) (tree : Layout) (j i : ℕ) → IsTreeOf ds ss tree → j < length ds → i < count_in tree → cell_in tree j i < length (cells_for ds ss)
cell_exists ds ss tree j i laid decided exists =
    let here : i < length (scenarios ss) = omega (arith, exists, laid.count) in
    let d : Decision = get_or ds j no_decision in
    let s : Scenario = get_or (scenarios ss) i no_scenario in
    slice_get_within (cells_for ds ss) (cell_in tree j i) (cell_at j d (history d.stage ss s.values))
    (laid.placed j i d s (slice_get-get_or ds j no_decision decided) (slice_get-get_or (scenarios ss) i no_scenario here))

pub variable_drawn : (ds : List Decision) (ss : List Stochastic) (tree : Layout) (j : ℕ) → IsTreeOf ds ss tree → j < length ss → j < tree.variables
variable_drawn ds ss tree j laid below = omega (arith, below, laid.variables)

pub decision_placed : (ds : List Decision) (ss : List Stochastic) (tree : Layout) (j : ℕ) → IsTreeOf ds ss tree → j < length ds → j < decisions_in tree
decision_placed ds ss tree j laid below = omega (arith, below, laid.decisions)
