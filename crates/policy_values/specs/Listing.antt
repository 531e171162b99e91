-- Variables as they are entered in a table, and tasks as numbers.
use Rattle.std.specs.Prelude.{ℤ, List, [], ◌∷◌, ◌++◌}
use Rattle.sopl_ast.specs.Known.{Constant}
use Rattle.sopl_ast.specs.Numbers.{Task}
use Rattle.unfold_tables.specs.Tables.{elements_in, named, table_known}
use Rattle.policy_values.specs.declared.numbering.Numbering.{Numbering}

-- those that are in the table, and behind them those of the name that is at work
abbrev pub entered : Numbering → List Constant
entered numbering = (table_known numbering.table).constants ++ named numbering.name.now (elements_in numbering.run)

-- the numbers of tasks, three for each of them
abbrev pub task_numbers : List Task → List ℤ
task_numbers [] = []
task_numbers (task ∷ later) = task.start ∷ task.duration ∷ task.demand ∷ task_numbers later
