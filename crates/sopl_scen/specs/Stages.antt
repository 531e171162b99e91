-- Stages and the cells of decisions, as the program keeps them. These steps are the code's own.
use Rattle.std.specs.Prelude.{ℕ, ◌+◌, ◌-◌, ◌*◌, List, [], ◌∷◌, length, get_or, map}
use Rattle.std.specs.Int.{int_gap}
use Rattle.std.specs.List.{range_with_len}
use Rattle.sopl_ast.specs.Numbers.{binary_digits}
use Rattle.sopl_ast.specs.Instances.{Decision, Stochastic}
use Rattle.scen_laws.specs.Laws.{seen_before}
use Rattle.sopl_scen.specs.declared.stages.Stage.{Stage}
use Rattle.sopl_scen.specs.declared.cells.Place.{Place}
use Rattle.sopl_scen.specs.Levels.{level_at}

-- a stage: how many variables are seen before it, and the nodes of their level
abbrev pub stage_in : List Stochastic → ℕ → Stage
stage_in stochastics stage =
    record { prefix = seen_before stage stochastics; histories = length (level_at stochastics (seen_before stage stochastics)) }

-- the numbers of the stages
unfoldable pub stage_numbers : List ℕ
stage_numbers = range_with_len 1 24

-- all stages
abbrev pub all_stages : List Stochastic → List Stage
all_stages stochastics = map (stage_in stochastics) stage_numbers

-- no stage, in place of one that is not there
abbrev pub no_stage : Stage
no_stage = record { prefix = 0; histories = 0 }

-- how many histories a stage has
abbrev pub count_at : List Stage → ℕ → ℕ
count_at stages stage = (get_or stages (stage - 1) no_stage).histories

-- how many cells a decision has
abbrev pub cell_count : List Stage → Decision → ℕ
cell_count stages d = count_at stages d.stage

-- the place of the first cell of each decision, from here on
abbrev pub places_from : ℕ → List Stage → List Decision → List Place
places_from first stages [] = []
places_from first stages (d ∷ later) = (record { first = first; stage = d.stage }) ∷ places_from (first + cell_count stages d) stages later

-- the bits of a decision
unfoldable pub bit_count : List Stage → Decision → ℕ
bit_count stages d = binary_digits (int_gap d.lo d.hi) * cell_count stages d
