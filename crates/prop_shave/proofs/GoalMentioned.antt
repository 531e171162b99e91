-- The parts that mention a cell.
use Rattle.std.proofs.Common.{◌≡◌, ◌∙◌, ℕ, zero, suc, ◌<◌, pos, Bool, false, List, [], ◌∷◌, Option, Some, length, get_or, slice_get, arith, ap, refl, sym}
use Rattle.std.specs.List.{AllByRecursion}
use Rattle.std.specs.Option.{option_map_or}
use Rattle.box_problem.specs.Box.{Box}
use Rattle.term_language.specs.Mentions.{mentions}
use Rattle.term_goals.specs.declared.sums.Atom.{Atom}
use Rattle.term_nodes.specs.Things.{Thing, term_at}
use Rattle.term_problem.specs.Problems.{direction_in}
use Rattle.term_program.specs.declared.program.Program.{Program}
use Rattle.term_program.specs.Programs.{problem_in, root_in, things_in}
use Rattle.term_program.specs.Mentions.{IsListOf, atom_ids}
use Rattle.prop_shave.proofs.Mentioned.{listed_is}
use Rattle.prop_shave.specs.Sums.{has_cell}
use Rattle.prop_shave.specs.GoalSums.{is_touched, part_at, part_over, touches_at}

-- a part whose term's cells are listed
pub touched_is : (root : Box) (all : List Thing) (cell : ℕ) (a : Atom) (cells : List ℕ) (answer : Bool) → IsListOf (mentions root (term_at all a.term)) cells → answer ≡ has_cell cell cells
    → answer ≡ is_touched root all cell a
touched_is root all cell a cells answer listed is =
    is ∙ listed_is cell (mentions root (term_at all a.term)) cells listed

-- the part with a number
pub part_found : (atoms : List Atom) (number : ℕ) (d : Atom) → number < length atoms → slice_get atoms number ≡ Some (get_or atoms number d)
part_found [] number d below = absurd (omega (arith, below))
part_found (a ∷ atoms) zero d below = refl
part_found (a ∷ atoms) (suc number) d below = part_found atoms number d (omega (arith, below))

pub touches_is : (root : Box) (all : List Thing) (atoms : List Atom) (cell number : ℕ) (d : Atom) → number < length atoms → is_touched root all cell (get_or atoms number d)
    ≡ touches_at root all atoms cell number
touches_is root all atoms cell number d below =
    sym (ap (λ (o : Option Atom). option_map_or (is_touched root all cell) o false) (part_found atoms number d below))

-- what holds of the number of each part holds of that at a place
pub number_at : (P : ℕ → Type 0) (atoms : List Atom) (i : ℕ) (d : Atom) → AllByRecursion P (atom_ids atoms) → i < length atoms → P (get_or atoms i d).term
number_at P [] i d all below = absurd (omega (arith, below))
number_at P (a ∷ atoms) zero d all below = all.0
number_at P (a ∷ atoms) (suc i) d all below = number_at P atoms i d all.1 (omega (arith, below))

pub part_there : (P : Atom → Type 0) (atoms : List Atom) (number : ℕ) (d : Atom) → AllByRecursion P atoms → number < length atoms → P (get_or atoms number d)
part_there P [] number d all below = absurd (omega (arith, below))
part_there P (a ∷ atoms) zero d all below = all.0
part_there P (a ∷ atoms) (suc number) d all below = part_there P atoms number d all.1 (omega (arith, below))

-- the better end of the part with a number
pub part_is : (program : Program) (atoms : List Atom) (b : Box) (number : ℕ) (d : Atom) → number < length atoms
    → part_over (direction_in (problem_in program)) (root_in program) (things_in program) b (get_or atoms number d) ≡ part_at program atoms b number
part_is program atoms b number d below =
    sym (ap (λ (o : Option Atom). option_map_or (part_over (direction_in (problem_in program)) (root_in program) (things_in program) b) o (pos 0)) (part_found atoms number d below))
