-- The better end of an expected objective over a box, part by part.
use Rattle.std.specs.Prelude.{◌≡◌, ℕ, ℤ, pos, ◌≤ℤ◌, Bool, false, List, [], length, slice_get}
use Rattle.std.specs.List.{AllByRecursion, filter}
use Rattle.std.specs.Option.{option_map_or}
use Rattle.sopl_base.specs.declared.direction.Direction.{Direction}
use Rattle.sopl_base.specs.declared.direction.Direction.TheVariants.{Minimize, Maximize, Nothing}
use Rattle.box_problem.specs.Box.{Box, Inside}
use Rattle.term_language.specs.Ends.{Ends, exactly, plus, scaled}
use Rattle.term_language.specs.Rules.{Near, interval}
use Rattle.term_language.specs.Mentions.{mentions}
use Rattle.term_problem.specs.Objective.{better_end, goal_ends}
use Rattle.term_problem.specs.Problems.{direction_in}
use Rattle.term_problem.specs.Search.{numbers_to}
use Rattle.term_goals.specs.Goals.{AtomsExist, listed_ends}
use Rattle.term_goals.specs.declared.sums.Atom.{Atom}
use Rattle.term_nodes.specs.Things.{Thing, term_at}
use Rattle.term_program.specs.declared.program.Program.{Program}
use Rattle.term_program.specs.Mentions.{atom_ids}
use Rattle.term_program.specs.Programs.{IsListedTerm, problem_in, root_in, summed_form, things_in}
use Rattle.prop_shave.specs.Sums.{has_cell, sum_over}

-- the worse end of an interval
abbrev pub worse_end : Direction → Ends → ℤ
worse_end Minimize a = a.high
worse_end Maximize a = a.low
worse_end Nothing a = pos 0

-- the better end of a multiple of a term over a box
abbrev pub part_over : Direction → Box → List Thing → Box → Atom → ℤ
part_over direction root all b a = better_end direction (scaled a.k (interval Near root b (term_at all a.term)))

-- the better end over a box of the part with a number
abbrev pub part_at : Program → List Atom → Box → ℕ → ℤ
part_at program atoms b number =
    option_map_or (part_over (direction_in (problem_in program)) (root_in program) (things_in program) b) (slice_get atoms number) (pos 0)

-- and of all of them together
abbrev pub parts_over : Program → List Atom → Box → ℤ
parts_over program atoms b = sum_over (part_at program atoms b) (numbers_to (length atoms))

-- the cells that the part with a number mentions
abbrev pub part_cells : Program → List Atom → ℕ → List ℕ
part_cells program atoms number =
    option_map_or (λ (a : Atom). mentions (root_in program) (term_at (things_in program) a.term)) (slice_get atoms number) []

-- whether a part mentions a cell, and the numbers of the parts that do
abbrev pub is_touched : Box → List Thing → ℕ → Atom → Bool
is_touched root all cell a = has_cell cell (mentions root (term_at all a.term))

abbrev pub touches_at : Box → List Thing → List Atom → ℕ → ℕ → Bool
touches_at root all atoms cell number = option_map_or (is_touched root all cell) (slice_get atoms number) false

abbrev pub touched_by : Box → List Thing → List Atom → ℕ → List ℕ
touched_by root all atoms cell = filter (touches_at root all atoms cell) (numbers_to (length atoms))

-- a better end is at least as good as a number
abbrev pub IsAsGood : Direction → ℤ → ℤ → Type 0
IsAsGood Minimize end v = end ≤ℤ v
IsAsGood Maximize end v = v ≤ℤ end
IsAsGood Nothing end v = Unit {0}

-- parts of an expected objective, which exist and whose cells are kept: their intervals and a constant sum up to that of the objective over each box
-- inside the root
pub record AreParts (program : Program) (atoms : List Atom) : Type 0 where
  pub sum : (b : Box) → Inside b (root_in program)
      → plus (exactly (summed_form (root_in program) (problem_in program)).constant) (listed_ends (root_in program) b (things_in program) atoms) ≡ goal_ends (root_in program) b (problem_in program)
  pub exist : AtomsExist (length (things_in program)) atoms
  pub listed : AllByRecursion (IsListedTerm program) (atom_ids atoms)
