-- The better end of an expected objective, as it is kept from one box to the next.
use Rattle.std.specs.Prelude.{◌≡◌, ℕ, ℤ, ◌+ℤ◌, false, List, length}
use Rattle.box_problem.specs.Box.{Box}
use Rattle.term_problem.specs.Objective.{better_end, goal_ends}
use Rattle.term_problem.specs.Problems.{direction_in}
use Rattle.term_problem.specs.Search.{numbers_to}
use Rattle.term_program.specs.declared.program.Program.{Program}
use Rattle.term_program.specs.Programs.{problem_in, root_in, summed_form}
use Rattle.prop_shave.specs.GoalKnown.{AreEnds}
use Rattle.prop_shave.specs.GoalSums.{AreParts, parts_over}
use Rattle.prop_shave.specs.Sums.{sum_over}
use Rattle.prop_chance.specs.KeptTurns.{KeepsTurns, KnowsTurns}
use Rattle.prop_goal.specs.Cells.{is_worst}
use Rattle.prop_goal.specs.KeptParts.{AreOneEach, ArePartsSeen, KeepsParts, better_by, touches}
use Rattle.prop_goal.specs.declared.kept_ends.KeptEnds.{KeptEnds}
use Rattle.prop_goal.specs.declared.kept_parts.KeptParts.{KeptParts}

-- the end that is kept is the sum of the better ends of the parts and the constant
abbrev pub constant_of : Program → ℤ
constant_of program = (summed_form (root_in program) (problem_in program)).constant

abbrev pub IsEndSummed : Program → KeptEnds → Type 0
IsEndSummed program k =
    k.end.value ≡ constant_of program +ℤ sum_over (better_by k.parts.ends.items) (numbers_to (length k.parts.atoms.items))

-- these are the parts of an expected objective, with room for their ends, for whether they wait, and for the turns of so many cells
pub record FitsEnds (k : KeptEnds) (program : Program) (cells : ℕ) : Type 0 where
  pub expected : is_worst (problem_in program) ≡ false
  pub are : AreParts program k.parts.atoms.items
  pub one_each : AreOneEach k.parts
  pub turns : length k.turns.known.items ≡ cells

-- what is kept of the parts is right for a box, the end is the sum, and the turns with these cells are right, too
pub record KeepsEnds (program : Program) (cells : List ℕ) (b : Box) (k : KeptEnds) : Type 0 where
  pub parts : KeepsParts program b k.parts
  pub summed : IsEndSummed program k
  pub turns : KeepsTurns (parts_over program k.parts.atoms.items) (touches program k.parts.atoms.items) (length k.parts.atoms.items) b
      k.parts.outdated cells k.turns

-- the ends of the parts that do not wait are those over the box, and the end is the sum
pub record AreEndsSeen (program : Program) (b : Box) (k : KeptEnds) : Type 0 where
  pub parts : ArePartsSeen program b k.parts
  pub summed : IsEndSummed program k

-- these are the parts of the objective, the number is its better end over the box, and the ends are those of the parts there
pub record KnowsEnds (program : Program) (b : Box) (k : KeptParts) (value : ℤ) : Type 0 where
  pub are : AreParts program k.atoms.items
  pub end : value ≡ better_end (direction_in (problem_in program)) (goal_ends (root_in program) b (problem_in program))
  pub ends : AreEnds program b k.atoms.items k.ends.items

-- so they are, with no turns that are not right
pub record KnowsEnd (program : Program) (cells : List ℕ) (b : Box) (k : KeptEnds) : Type 0 where
  pub known : KnowsEnds program b k.parts k.end.value
  pub turns : KnowsTurns (parts_over program k.parts.atoms.items) b cells k.turns
