-- Which program is that of a problem, and what a fault says of a model.
use Rattle.std.specs.Prelude.{◌≡◌}
use Rattle.sopl_base.specs.declared.fault.Fault.{Fault}
use Rattle.sopl_base.specs.declared.fault.Fault.TheVariants as fault
use Rattle.sopl_ast.specs.Cells.{cells}
use Rattle.sopl_ast.specs.Instances.{Problem}
use Rattle.sopl_ast.specs.Whole.{ModelTree}
use Rattle.compile_laws.specs.Root.{root_box}
use Rattle.compile_laws.specs.Whole.{problem_terms}
use Rattle.term_program.specs.Programs.{IsMade, problem_in, root_in}
use Rattle.term_program.specs.declared.program.Program.{Program}
use Rattle.answer_texts.specs.Models.{IsLarge}

-- the program is that of the problem: over the box of all its points, with the problem's terms
pub record IsProgramOf (problem : Problem) (program : Program) : Type 0 where
  pub made : IsMade program
  pub root : root_in program ≡ root_box (cells problem)
  pub terms : problem_in program ≡ problem_terms problem

-- a fault says why an accepted model is not solved
abbrev pub IsSolveFault : ModelTree → Fault → Type 0
IsSolveFault model (fault.Text refusal) = ⊥
IsSolveFault model (fault.Limit excess) = IsLarge model excess
IsSolveFault model fault.NoMemory = Unit {0}
