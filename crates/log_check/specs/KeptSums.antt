-- Sums over a box that are kept while a log is walked along, and the cells that have changed since they were seen.
use Rattle.std.specs.Prelude.{◌≡◌, ℕ, ◌<◌, ◌≤◌, ℤ, pos, ◌+ℤ◌, ◌-ℤ◌, false, List, [], get_or, length, map, slice_set, Contains}
use Rattle.std.specs.Option.{option_map_or}
use Rattle.sopl_base.specs.declared.wide.Wide.{Wide}
use Rattle.box_problem.specs.Box.{Box, Inside}
use Rattle.term_goals.specs.declared.sums.Atom.{Atom}
use Rattle.term_problem.specs.Search.{numbers_to}
use Rattle.term_program.specs.declared.program.Program.{Program}
use Rattle.term_program.specs.Programs.{IsMade, problem_in, root_in}
use Rattle.prop_shave.specs.Sums.{sum_over}
use Rattle.prop_shave.specs.ChanceSums.{condition_cells, weight_over}
use Rattle.prop_shave.specs.GoalSums.{AreParts, part_at, part_cells}
use Rattle.log_check.specs.declared.changes.Changes.{Changes}
use Rattle.log_check.specs.declared.seen_sum.CellList.{CellList}
use Rattle.log_check.specs.declared.seen_sum.SeenSum.{SeenSum}
use Rattle.log_check.specs.declared.sum_parts.EndParts.{EndParts}
use Rattle.log_check.specs.declared.sum_parts.WeightParts.{WeightParts}
use Rattle.log_check.specs.declared.sums.Sums.{Sums}

-- none of these cells has changed at a time or since
abbrev pub AreUnchanged : Changes → ℕ → List ℕ → Type 0
AreUnchanged changes time cells = (cell : ℕ) → Contains cells cell → get_or changes.last.items cell 0 < time

-- each of these cells that exists has changed now, and no other one
pub record AreChanged (cells : List ℕ) (old new : Changes) : Type 0 where
  pub time : new.time ≡ old.time
  pub count : length new.last.items ≡ length old.last.items
  pub here : (cell : ℕ) → Contains cells cell → cell < length old.last.items → get_or new.last.items cell 0 ≡ old.time
  pub others : (cell : ℕ) → ¬ Contains cells cell → get_or new.last.items cell 0 ≡ get_or old.last.items cell 0

-- time went on, and no cell has changed
pub record IsLater (old new : Changes) : Type 0 where
  pub time : old.time ≤ new.time
  pub last : new.last ≡ old.last

-- the cells that are listed for a part of a sum, and the number that is kept of it
abbrev pub cells_of_part : SeenSum → ℕ → List ℕ
cells_of_part k part = get_or (map (λ (list : CellList). list.cells.items) k.lists.items) part []

abbrev pub part_kept : SeenSum → ℕ → ℤ
part_kept k part = (get_or k.parts.items part (record { value = pos 0 })).value

-- the sum was seen, and no cell of a part has changed since
pub record IsCurrent (changes : Changes) (k : SeenSum) (part : ℕ) : Type 0 where
  pub seen : 0 < k.seen
  pub unchanged : AreUnchanged changes k.seen (cells_of_part k part)

-- it has so many parts, and lists for each of them all cells that this mentions
pub record IsOfParts (mention : ℕ → List ℕ) (count : ℕ) (k : SeenSum) : Type 0 where
  pub lists : length k.lists.items ≡ count
  pub parts : length k.parts.items ≡ count
  pub all : (part cell : ℕ) → part < count → Contains (mention part) cell → Contains (cells_of_part k part) cell

-- it is of these parts: the number of each part that is current is this one, and the sum is that of all numbers that are kept
pub record IsSumKept (changes : Changes) (mention : ℕ → List ℕ) (count : ℕ) (value : ℕ → ℤ) (k : SeenSum) : Type 0 where
  pub listed : IsOfParts mention count k
  pub before : k.seen ≤ changes.time
  pub summed : k.sum.value ≡ sum_over (part_kept k) (numbers_to count)
  pub each : (part : ℕ) → part < count → IsCurrent changes k part → part_kept k part ≡ value part

-- so it is, if the sum was seen; else nothing is said
abbrev pub KeepsSum : Changes → (ℕ → List ℕ) → ℕ → (ℕ → ℤ) → SeenSum → Type 0
KeepsSum changes mention count value k = 0 < k.seen → IsSumKept changes mention count value k

-- the number of one part was set, and the sum with it
pub record IsPartSet (old new : SeenSum) (at : ℕ) (part : Wide) : Type 0 where
  pub parts : new.parts.items ≡ slice_set old.parts.items at part
  pub sum : new.sum.value ≡ (old.sum.value -ℤ part_kept old at) +ℤ part.value
  pub lists : new.lists ≡ old.lists
  pub seen : new.seen ≡ old.seen

-- the objective is an expected one, and these are its parts
pub record AreGoalParts (program : Program) (atoms : List Atom) : Type 0 where
  pub expected : option_map_or (λ goal. goal.worst) (problem_in program).goal false ≡ false
  pub are : AreParts program atoms

-- the scenarios of a chance constraint that the program has, and the parts of its objective, over a part of the root box
pub record AreScenarios (parts : WeightParts) : Type 0 where
  pub made : IsMade parts.program.now
  pub inside : Inside parts.store.now.box (root_in parts.program.now)
  pub exists : parts.instance < length (problem_in parts.program.now).chances

pub record AreEndParts (parts : EndParts) : Type 0 where
  pub made : IsMade parts.program.now
  pub inside : Inside parts.store.now.box (root_in parts.program.now)
  pub are : AreParts parts.program.now parts.atoms.now

-- there is a time for each cell, and the sums that are kept are right for a box
pub record KeepsSums (program : Program) (b : Box) (sums : Sums) : Type 0 where
  pub cells : length sums.changes.last.items ≡ length b.lows
  pub weights : (instance : ℕ) (d : SeenSum) → instance < length sums.weights.items
      → KeepsSum sums.changes (condition_cells (root_in program) (problem_in program) instance) (length (problem_in program).weights)
      (weight_over (root_in program) (problem_in program) instance b) (get_or sums.weights.items instance d)
  pub atoms : 0 < sums.ends.seen → AreGoalParts program sums.atoms.items
  pub ends : KeepsSum sums.changes (part_cells program sums.atoms.items) (length sums.atoms.items) (part_at program sums.atoms.items b)
      sums.ends

-- what was right for the one box is right for the other
abbrev pub SumsFollow : Box → Box → Sums → Sums → Type 0
SumsFollow b c old new = (program : Program) → KeepsSums program b old → KeepsSums program c new
