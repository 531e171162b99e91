-- What tables, sets of numbers and tasks show, in the words of the definitions.
use Rattle.std.specs.Prelude.{ℕ, ℤ, List, [], ◌∷◌, ◌++◌, map, Option, Some, None, if◌then◌else◌}
use Rattle.std.specs.declared.alloc.Global.{Global}
use Rattle.std.specs.declared.vec.Vec.{Vec}
use Rattle.unfold_tables.specs.declared.elements.Elements.{Elements}
use Rattle.unfold_tables.specs.declared.sets.Ends.{Ends}
use Rattle.unfold_tables.specs.declared.sets.NumberSet as set
use Rattle.unfold_tables.specs.declared.sets.NumberSet.TheVariants as in_set
use Rattle.unfold_tables.specs.declared.sets.Numbers.{Numbers}
use Rattle.unfold_tables.specs.declared.sets.Numbers.TheVariants as in_numbers
use Rattle.unfold_tables.specs.declared.table.TableEntry.{TableEntry}
use Rattle.unfold_tables.specs.declared.table.TableEntry.TheVariants as entity
use Rattle.unfold_tables.specs.declared.table.Entry.{Entry}
use Rattle.unfold_tables.specs.declared.table.Table.{Table}
use Rattle.unfold_tables.specs.declared.tasks.TaskNumbers as task
use Rattle.sopl_ast.specs.Numbers as n
use Rattle.sopl_ast.specs.Numbers.{up_to}
use Rattle.sopl_ast.specs.Known as k
use Rattle.sopl_ast.specs.Known.{Constant, NumberSet, NamedSet, Known, same_values}

-- the elements of a vector
abbrev pub items : {A : Type 0} → Vec A Global → List A
items vector = vector.items

-- the numbers of a range or a set, as it is kept
abbrev pub number_set : set.NumberSet → NumberSet
number_set (in_set.Between ends) = k.Between ends.lo ends.hi
number_set (in_set.Listed numbers) = k.Listed (items numbers)

-- the numbers of a range or a set, one by one
abbrev pub shown : Numbers → List ℤ
shown (in_numbers.Between ends) = up_to ends.lo ends.hi
shown (in_numbers.Listed numbers) = numbers.now

-- the ends of a range
abbrev pub ends_in : Ends → ℤ × ℤ
ends_in ends = (ends.lo, ends.hi)

-- the indices of an array with the values there, in the order in which they came
abbrev pub pairs : List (Vec ℤ Global × ℤ) → List (List ℤ × ℤ)
pairs entries = map (λ (e : Vec ℤ Global × ℤ). (items e.0, e.1)) entries

-- the elements of a constant
abbrev pub elements_in : Elements → List (List ℤ × ℤ)
elements_in elements = pairs elements.first.entries ++ pairs (items elements.again)

-- the first value at an index
abbrev pub element_value : List ℤ → List (List ℤ × ℤ) → Option ℤ
element_value index [] = None
element_value index (e ∷ es) = if same_values index e.0 then Some e.1 else element_value index es

-- elements under a name
abbrev pub named : List ℕ → List (List ℤ × ℤ) → List Constant
named name elements = map (λ (e : List ℤ × ℤ). record { name = name; index = e.0; value = e.1 }) elements

-- the elements that an entry has under a name
abbrev pub constants_under : List ℕ → TableEntry → List Constant
constants_under name (entity.Array elements) = named name (elements_in elements)
constants_under name (entity.Set numbers) = []

-- the range or set that an entry has under a name
abbrev pub sets_under : List ℕ → TableEntry → List NamedSet
sets_under name (entity.Array elements) = []
sets_under name (entity.Set numbers) = (record { name = name; numbers = number_set numbers }) ∷ []

-- the constants of entries
abbrev pub constants_in : List Entry → List Constant
constants_in [] = []
constants_in (e ∷ es) = constants_under (items e.name) e.entity ++ constants_in es

-- the ranges and sets of entries
abbrev pub sets_in : List Entry → List NamedSet
sets_in [] = []
sets_in (e ∷ es) = sets_under (items e.name) e.entity ++ sets_in es

-- what a table knows
abbrev pub table_known : Table → Known
table_known table = record { bound = []; constants = constants_in (items table.entries); sets = sets_in (items table.entries) }

-- a task
abbrev pub task_in : task.TaskNumbers → n.Task
task_in t = record { start = t.start; duration = t.duration; demand = t.demand }

-- tasks from their starts, lengths and demands, one behind the other
abbrev pub tasks_of : List ℤ → List n.Task
tasks_of (start ∷ duration ∷ demand ∷ later) = (record { start = start; duration = duration; demand = demand }) ∷ tasks_of later
tasks_of numbers = []
