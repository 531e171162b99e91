-- The objective's term in each scenario, as it is kept from one box to the next where the worst scenario counts.
use Rattle.std.specs.Prelude.{◌≡◌, ℕ, ℤ, pos, true, false, List, Some, length, slice_get}
use Rattle.std.specs.List.{AllByRecursion}
use Rattle.box_problem.specs.Box.{Box}
use Rattle.term_goals.specs.Goals.{AtomsExist}
use Rattle.term_goals.specs.declared.sums.Atom.{Atom}
use Rattle.term_nodes.specs.Things.{term_at}
use Rattle.term_problem.specs.Problems.{direction_in}
use Rattle.term_program.specs.declared.program.Program.{Program}
use Rattle.term_program.specs.Mentions.{atom_ids}
use Rattle.term_program.specs.Programs.{IsListedTerm, no_better, problem_in, things_in}
use Rattle.prop_shave.specs.GoalSums.{part_at}
use Rattle.prop_shave.specs.Turns.{at_high, at_low}
use Rattle.prop_goal.specs.Cells.{is_worst, term_in}
use Rattle.prop_goal.specs.KeptParts.{AreOneEach}
use Rattle.prop_goal.specs.declared.kept_worst.KeptWorst.{KeptWorst}

-- a part is the objective's term in a scenario, once
pub record IsScenarioTerm (program : Program) (scenario : ℕ) (a : Atom) : Type 0 where
  pub once : a.k ≡ pos 1
  pub term : term_in (problem_in program) scenario ≡ Some (term_at (things_in program) a.term)

-- the parts are the terms in so many scenarios, which exist and whose cells are kept
pub record AreScenarioTerms (program : Program) (count : ℕ) (atoms : List Atom) : Type 0 where
  pub each : (scenario : ℕ) (a : Atom) → slice_get atoms scenario ≡ Some a → IsScenarioTerm program scenario a
  pub as_many : length atoms ≡ count
  pub exist : AtomsExist (length (things_in program)) atoms
  pub listed : AllByRecursion (IsListedTerm program) (atom_ids atoms)

-- the worst scenario counts, and the parts are the terms in all scenarios
pub record AreWorst (program : Program) (atoms : List Atom) : Type 0 where
  pub worst : is_worst (problem_in program) ≡ true
  pub terms : AreScenarioTerms program (length (problem_in program).weights) atoms

-- and there is room for their ends, and for whether they wait
pub record FitsWorst (k : KeptWorst) (program : Program) : Type 0 where
  pub are : AreWorst program k.parts.atoms.items
  pub one_each : AreOneEach k.parts

-- the better end in a scenario is better than a value over the box with a cell at its low end, and at its high end
pub record IsBetterWith (program : Program) (atoms : List Atom) (b : Box) (v : ℤ) (cell scenario : ℕ) : Type 0 where
  pub to_low : no_better (direction_in (problem_in program)) (part_at program atoms (at_low b cell) scenario) v ≡ false
  pub to_high : no_better (direction_in (problem_in program)) (part_at program atoms (at_high b cell) scenario) v ≡ false
