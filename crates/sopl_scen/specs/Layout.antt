-- A tree of scenarios: how many there are, what each weighs and which values it has, the histories of each stage, and the cells.
use Rattle.std.specs.Prelude.{◌≡◌, ℕ, ◌+◌, ◌-◌, ◌*◌, ◌≤◌, ◌<◌, ◌^◌, ℤ, pos, List, length, get_or, Some, slice_get}
use Rattle.std.specs.List.{AllByRecursion, flat_map, enumerate_from}
use Rattle.sopl_ast.specs.Instances.{Decision, Stochastic, Problem}
use Rattle.sopl_ast.specs.Scenarios.{Scenario, scenarios, total_weight}
use Rattle.sopl_ast.specs.Histories.{history, histories, number_of}
use Rattle.sopl_ast.specs.Cells.{Cell, cells_of}
use Rattle.sopl_ast.specs.UnfoldEvents.{most_counted}
use Rattle.unfold_laws.specs.Bounds.{IsBoundedDecision, IsBoundedStochastic, IsStage}
use Rattle.scen_laws.specs.Laws.{HasOutcome, IsByStage}
use Rattle.sopl_scen.specs.declared.cells.Place.{Place}
use Rattle.sopl_scen.specs.declared.stages.Stage.{Stage}
use Rattle.sopl_scen.specs.Stages.{no_stage, count_at}

-- the tables of a tree: the weight of all scenarios and that of each; how many stochastic variables there are; the values of each scenario, from the last
-- variable to the first; the numbers of the scenarios of all prefixes with which it begins; the stages; and for each decision its first cell and its stage
pub record Layout : Type 0 where
  pub total : ℤ
  pub variables : ℕ
  pub weights : List ℤ
  pub values : List ℤ
  pub nodes : List ℕ
  pub stages : List Stage
  pub places : List Place
  pub cells : ℕ

-- how many scenarios and decisions a tree has
abbrev pub count_in : Layout → ℕ
count_in tree = length tree.weights

abbrev pub decisions_in : Layout → ℕ
decisions_in tree = length tree.places

-- the weight of a scenario
abbrev pub weight_in : Layout → ℕ → ℤ
weight_in tree scenario = get_or tree.weights scenario (pos 0)

-- the value of a stochastic variable in a scenario
abbrev pub value_in : Layout → ℕ → ℕ → ℤ
value_in tree stoch scenario = get_or tree.values (scenario * tree.variables + (tree.variables - 1 - stoch)) (pos 0)

-- how many variables are seen before a stage
abbrev pub prefix_at : List Stage → ℕ → ℕ
prefix_at stages stage = (get_or stages (stage - 1) no_stage).prefix

-- the number of a scenario's history among those of a stage
abbrev pub history_in : Layout → ℕ → ℕ → ℕ
history_in tree stage scenario = get_or tree.nodes (scenario * (tree.variables + 1) + (tree.variables - prefix_at tree.stages stage)) 0

-- how many histories a stage has
abbrev pub histories_in : Layout → ℕ → ℕ
histories_in tree stage = count_at tree.stages stage

-- no decision, in place of one that is not there
abbrev pub no_place : Place
no_place = record { first = 0; stage = 0 }

-- the place of a decision
abbrev pub place_in : Layout → ℕ → Place
place_in tree decision = get_or tree.places decision no_place

-- the number of a decision's cell in a scenario
abbrev pub cell_in : Layout → ℕ → ℕ → ℕ
cell_in tree decision scenario = (place_in tree decision).first + history_in tree (place_in tree decision).stage scenario

-- the tables are as long as scenarios and variables ask for, and each number fits
pub record IsFilled (tree : Layout) : Type 0 where
  pub few : count_in tree < 2 ^ 32
  pub drawn : length tree.values ≡ count_in tree * tree.variables
  pub numbered : length tree.nodes ≡ count_in tree * (tree.variables + 1)
  pub staged : length tree.stages ≡ 24
  pub prefixes : (stage : ℕ) → IsStage stage → prefix_at tree.stages stage ≤ tree.variables
  pub placed : (j : ℕ) → j < decisions_in tree → IsStage (place_in tree j).stage
  pub small : (j i : ℕ) → j < decisions_in tree → i < count_in tree → cell_in tree j i < 2 ^ 32

-- the cells of decisions, by decision and then by the number of the history
abbrev pub cells_for : List Decision → List Stochastic → List Cell
cells_for decisions stochastics = flat_map (cells_of stochastics) (enumerate_from 0 decisions)

-- the cell of a decision, with its number, at a history
abbrev pub cell_at : ℕ → Decision → List ℤ → Cell
cell_at number d seen = record { key = (number, seen); lo = d.lo; hi = d.hi }

-- a tree has the scenarios, the histories and the cells of these decisions and stochastic variables
pub record IsTreeOf (ds : List Decision) (ss : List Stochastic) (tree : Layout) : Type 0 where
  pub whole : tree.total ≡ total_weight ss
  pub count : count_in tree ≡ length (scenarios ss)
  pub variables : tree.variables ≡ length ss
  pub decisions : decisions_in tree ≡ length ds
  pub weighed : (i : ℕ) (s : Scenario) → slice_get (scenarios ss) i ≡ Some s → weight_in tree i ≡ s.weight
  pub drawn : (j i : ℕ) (s : Scenario) → j < length ss → slice_get (scenarios ss) i ≡ Some s → slice_get s.values j ≡ Some (value_in tree j i)
  pub numbered :
      (stage i : ℕ) (s : Scenario) → IsStage stage → slice_get (scenarios ss) i ≡ Some s
      → number_of (history stage ss s.values) stage ss ≡ Some (history_in tree stage i)
  pub counted : (stage : ℕ) → IsStage stage → histories_in tree stage ≡ length (histories stage ss)
  pub celled : tree.cells ≡ length (cells_for ds ss)
  pub placed :
      (j i : ℕ) (d : Decision) (s : Scenario) → slice_get ds j ≡ Some d → slice_get (scenarios ss) i ≡ Some s
      → slice_get (cells_for ds ss) (cell_in tree j i) ≡ Some (cell_at j d (history d.stage ss s.values))

-- decisions and stochastic variables as a text that passes states them, and how many constraints there are beside them
pub record AreStated (ds : List Decision) (ss : List Stochastic) (constraints : ℕ) : Type 0 where
  pub decisions : AllByRecursion IsBoundedDecision ds
  pub outcomes : AllByRecursion HasOutcome ss
  pub stochastics : AllByRecursion IsBoundedStochastic ss
  pub ordered : IsByStage ss
  pub few : length ds + (length ss + constraints) ≤ most_counted

-- a problem has these decisions, these stochastic variables and so many constraints
pub record IsProblemOf (ds : List Decision) (ss : List Stochastic) (constraints : ℕ) (problem : Problem) : Type 0 where
  pub decided : problem.decisions ≡ ds
  pub drawn : problem.stochastics ≡ ss
  pub beside : length problem.hards + length problem.chances ≡ constraints
