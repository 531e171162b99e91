-- Small lists of intervals and of tasks, and terms over three cells, of which it is known what is told of them.
use Rattle.std.specs.Prelude.{ℕ, pos, true, false, List, [], ◌∷◌}
use Rattle.term_language.specs.Ends.{Ends, ends}
use Rattle.term_language.specs.Globals.{TaskEnds}
use Rattle.term_language.specs.Terms.{Term, Sum, Product, Terms, no_term, term, no_part, part, Tasks, no_task, task}
use Rattle.term_language.specs.WorkedIntervals.{x, y, z, number, quotient, absolute}

-- from one number to another
abbrev pub from_to : ℕ → ℕ → Ends
from_to a b = ends (pos a) (pos b)

-- a task by its start, its length and its demand
abbrev pub task_from : Ends → Ends → Ends → TaskEnds
task_from start duration demand = record { start = start; duration = duration; demand = demand }

-- two tasks that start from 0 to 0 and from 0 to 1, with the same length and the same demand
abbrev pub two_from : Ends → Ends → List TaskEnds
two_from duration demand =
    task_from (from_to 0 0) duration demand ∷ task_from (from_to 0 1) duration demand ∷ []

-- two tasks of length 2 to 3 and demand 2, the first of which starts at 0
abbrev pub and_later : Ends → List TaskEnds
and_later start =
    task_from (from_to 0 0) (from_to 2 3) (from_to 2 2) ∷ task_from start (from_to 2 3) (from_to 2 2) ∷ []

-- four operands
abbrev pub four : Term → Term → Term → Term → Terms
four a b c d = term a (term b (term c (term d no_term)))

-- two tasks from x and from y, both for z and each asking for 2
abbrev pub tasks_for_z : Tasks
tasks_for_z = task x z (number 2) (task y z (number 2) no_task)

-- 3 * x - 10 + x * z + x div 2 - abs(y)
abbrev pub several_parts : Term
several_parts =
    Sum (part false (Product (number 3) x) (part true (number 10) (part false (Product x z) (part false (quotient x (pos 2)) (part true (absolute y) no_part)))))
