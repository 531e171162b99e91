-- What is known of the better end of an objective.
use Rattle.std.specs.Prelude.{◌≡◌, ℕ, ◌<◌, ℤ, ◌+ℤ◌, ◌-ℤ◌, List, Some, IfSome, get_or, length, slice_get}
use Rattle.sopl_base.specs.declared.wide.Wide.{Wide}
use Rattle.box_problem.specs.Box.{Box, Inside}
use Rattle.term_language.specs.declared.answers.Defined.TheVariants.{Always}
use Rattle.term_language.specs.Ends.{scaled}
use Rattle.term_language.specs.Rules.{Near, interval, mark}
use Rattle.term_problem.specs.Objective.{better_end, goal_ends}
use Rattle.term_problem.specs.Problems.{direction_in}
use Rattle.term_goals.specs.declared.sums.Atom.{Atom}
use Rattle.term_nodes.specs.Things.{term_at}
use Rattle.term_program.specs.declared.program.Program.{Program}
use Rattle.term_program.specs.Programs.{problem_in, root_in, things_in}
use Rattle.prop_shave.specs.declared.goal_delta.GoalDelta.{GoalDelta}
use Rattle.prop_shave.specs.declared.part_ends.PartEnds.{PartEnds}
use Rattle.prop_shave.specs.GoalSums.{AreParts, IsAsGood, part_over, parts_over, touched_by, worse_end}
use Rattle.prop_shave.specs.Turns.{AreEndTurns}

-- the better end of a part over a box; and where a worse one is told, the better end over no part of the box is worse than that
pub record AreEndsOf (program : Program) (b : Box) (a : Atom) (e : PartEnds) : Type 0 where
  pub better : e.better.value ≡ part_over (direction_in (problem_in program)) (root_in program) (things_in program) b a
  pub worse : (c : Box) → Inside c b
      → IfSome e.worse (λ w. IsAsGood (direction_in (problem_in program)) (part_over (direction_in (problem_in program)) (root_in program) (things_in program) c a) w.value)

-- both are exactly those over the box, and a worse one is told only where the part has a value all over it
pub record IsPartSeen (program : Program) (b : Box) (a : Atom) (e : PartEnds) : Type 0 where
  pub better : e.better.value ≡ part_over (direction_in (problem_in program)) (root_in program) (things_in program) b a
  pub worse : IfSome e.worse (λ w. (mark Near (root_in program) b (term_at (things_in program) a.term) ≡ Always)
      × (w.value ≡ worse_end (direction_in (problem_in program)) (scaled a.k (interval Near (root_in program) b (term_at (things_in program) a.term)))))

-- a sum with the worse end of a part in place of its better one
pub record IsWorsened (e : PartEnds) (old new : ℤ) : Type 0 where
  pub worse : Wide
  pub told : e.worse ≡ Some worse
  pub sum : new ≡ (old +ℤ worse.value) -ℤ e.better.value

-- those of each of the first parts
abbrev pub AreEndsTo : Program → Box → List Atom → ℕ → List PartEnds → Type 0
AreEndsTo program b atoms count ends =
    (number : ℕ) (a : Atom) (e : PartEnds) → number < count → slice_get atoms number ≡ Some a → AreEndsOf program b a (get_or ends number e)

-- and of all parts
pub record AreEnds (program : Program) (b : Box) (atoms : List Atom) (ends : List PartEnds) : Type 0 where
  pub as_many : length ends ≡ length atoms
  pub each : AreEndsTo program b atoms (length atoms) ends

-- it is the better end over the box, the parts are those of the objective with their ends there, the numbers are those of the parts that mention the cell, and
-- by the turns, where there are some, the parts turn with the cell at its ends
pub record IsCounted (program : Program) (b : Box) (c : GoalDelta) : Type 0 where
  pub are : AreParts program c.atoms.now
  pub ends : AreEnds program b c.atoms.now c.ends.now
  pub end : c.end.value ≡ better_end (direction_in (problem_in program)) (goal_ends (root_in program) b (problem_in program))
  pub numbers : c.numbers.now ≡ touched_by (root_in program) (things_in program) c.atoms.now c.cell
  pub turns : IfSome c.turns (AreEndTurns (parts_over program c.atoms.now) b c.cell)
