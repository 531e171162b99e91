-- Tasks as they are kept, and the parts of what is told of them.
use Rattle.std.specs.Prelude.{Bool, List, map}
use Rattle.std.specs.List.{list_all, list_any}
use Rattle.term_language.specs.Ends as rule
use Rattle.term_language.specs.Globals.{TaskEnds, is_enough, is_overfull}
use Rattle.term_math.specs.Shown.{ends_of}
use Rattle.term_windows.specs.declared.tasks.TaskRange.{TaskRange}

-- the intervals of a task, and of several, as they are by the rules
abbrev pub task_ends_of : TaskRange → TaskEnds
task_ends_of t = record { start = ends_of t.start; duration = ends_of t.duration; demand = ends_of t.demand }

abbrev pub task_spans : List TaskRange → List TaskEnds
task_spans ts = map task_ends_of ts

-- the capacity is surely passed at the greatest start of one of some tasks
abbrev pub some_overfull : List TaskEnds → rule.Ends → List TaskEnds → Bool
some_overfull all capacity ts = list_any (λ (t : TaskEnds). is_overfull all capacity t.start.high) ts

-- and it is surely enough at the least start of each of them
abbrev pub all_enough : List TaskEnds → rule.Ends → List TaskEnds → Bool
all_enough all capacity ts = list_all (λ (t : TaskEnds). is_enough all capacity t.start.low) ts
