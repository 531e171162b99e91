-- What the propagator of the objective stands for.
use Rattle.std.specs.Prelude.{◌≡◌, ℕ, ◌<◌, ℤ, false, List, [], ◌∷◌, ◌++◌, Option, length, map, Contains, IfSome}
use Rattle.sopl_base.specs.declared.reason.Reason.{Reason}
use Rattle.sopl_base.specs.declared.reason.Reason.TheVariants.{Bound, Undefined}
use Rattle.box_problem.specs.Box.{Box}
use Rattle.box_problem.specs.BoxProblem.{BoxProblem}
use Rattle.box_problem.specs.Rightness.{Quiets}
use Rattle.term_language.specs.declared.answers.Defined.TheVariants.{Always}
use Rattle.term_language.specs.Rules.{Near, mark}
use Rattle.term_goals.specs.declared.sums.Atom.{Atom}
use Rattle.term_problem.specs.Problems.{ProblemTerms}
use Rattle.term_problem.specs.Search.{numbers_to}
use Rattle.term_program.specs.declared.program.Program.{Program}
use Rattle.term_program.specs.Programs.{IsMade, problem_in, root_in}
use Rattle.term_program.specs.Stated.{box_problem_of}
use Rattle.prop_core.specs.Watches.{HasRested}
use Rattle.prop_goal.specs.Cells.{AreGoalCells, term_in}
use Rattle.prop_goal.specs.KeptEnds.{FitsEnds, KeepsEnds, KnowsEnd}
use Rattle.prop_goal.specs.KeptParts.{AreAllSeen, KeepsParts}
use Rattle.prop_goal.specs.KeptWorst.{FitsWorst}
use Rattle.prop_goal.specs.declared.goals.Goal.{Goal}
use Rattle.prop_goal.specs.declared.kept_goal.KeptGoal.{KeptGoal}
use Rattle.prop_goal.specs.declared.kept_goal.KeptGoal.TheVariants.{Expected, Worst}

-- the objective's lack of a value in each scenario, and the bound
abbrev pub reasons_of : Goal → List Reason
reasons_of p = map Undefined (numbers_to p.scenarios) ++ Bound ∷ []

-- the term has a value there all over a box, or there is no objective
abbrev pub IsDefined : Box → ProblemTerms → ℕ → Type 0
IsDefined root terms scenario = IfSome (term_in terms scenario) (λ t. mark Near root root t ≡ Always)

-- these are some of so many scenarios, and in each other one the term has a value all over the root
pub record ArePartial (root : Box) (terms : ProblemTerms) (n : ℕ) (scenarios : List ℕ) : Type 0 where
  pub below : (scenario : ℕ) → Contains scenarios scenario → scenario < n
  pub others : (scenario : ℕ) → scenario < n → ¬ Contains scenarios scenario → IsDefined root terms scenario

-- the parts of the objective: of an expected one those of its sum, else the term in each scenario
abbrev pub atoms_of : KeptGoal → List Atom
atoms_of (Expected k) = k.parts.atoms.items
atoms_of (Worst k) = k.parts.atoms.items

-- it is kept for a program and so many cells
abbrev pub FitsKept : KeptGoal → Program → ℕ → Type 0
FitsKept (Expected k) program cells = FitsEnds k program cells
FitsKept (Worst k) program cells = FitsWorst k program

-- what is kept is right for a box
abbrev pub KeepsGoal : KeptGoal → Program → List ℕ → Box → Type 0
KeepsGoal (Expected k) program cells b = KeepsEnds program cells b k
KeepsGoal (Worst k) program cells b = KeepsParts program b k.parts

-- and everything has been seen there
abbrev pub KnowsGoal : KeptGoal → Program → List ℕ → Box → Type 0
KnowsGoal (Expected k) program cells b = KnowsEnd program cells b k
KnowsGoal (Worst k) program cells b = AreAllSeen program b k.parts

-- its scenarios are those of the program, and in all but some of them the objective's term has a value all over the root; its cells are
-- those of the objective; and it keeps what there is to be kept
pub record Fits (p : Goal) (program : Program) : Type 0 where
  pub made : IsMade program
  pub scenarios : p.scenarios ≡ length (problem_in program).weights
  pub partial : ArePartial (root_in program) (problem_in program) p.scenarios p.partial.items
  pub watched : AreGoalCells p.watched program (atoms_of p.kept)
  pub kept : FitsKept p.kept program (length p.watched.cells.items)

-- what it keeps is right for a box, and it rests there, if it has rested
pub record InStep (p : Goal) (program : Program) (b : Box) : Type 0 where
  pub keeps : KeepsGoal p.kept program p.watched.cells.items b
  pub rested : HasRested (box_problem_of program) (reasons_of p) p.rested b

-- it was made for the same, keeps as much, and what it keeps is right for a box
pub record HasLooked (old new : Goal) (program : Program) (b : Box) : Type 0 where
  pub keeps : KeepsGoal new.kept program new.watched.cells.items b
  pub fits : (p : Program) → Fits old p → Fits new p
  pub fitted : (p : Program) → Fits new p → Fits old p
  pub scenarios : new.scenarios ≡ old.scenarios
  pub watched : new.watched ≡ old.watched

-- a reason does not close a box
abbrev pub IsOpenTo : BoxProblem → Option ℤ → Box → Reason → Type 0
IsOpenTo problem v b reason = problem.refutes reason b v ≡ false

-- nor does it close the box with a cell at an end
abbrev pub RestsFor : BoxProblem → Option ℤ → Box → Reason → Type 0
RestsFor problem v b reason = Quiets problem (reason ∷ []) v b

-- the objective's lack of a value in each scenario
abbrev pub lacks_of : Goal → List Reason
lacks_of p = map Undefined (numbers_to p.scenarios)
