-- What the propagator of a hard constraint stands for.
use Rattle.std.specs.Prelude.{◌<◌, List, [], ◌∷◌, length}
use Rattle.sopl_base.specs.declared.reason.Reason.{Reason}
use Rattle.sopl_base.specs.declared.reason.Reason.TheVariants.{Hard}
use Rattle.term_program.specs.declared.program.Program.{Program}
use Rattle.term_program.specs.Programs.{IsMade, problem_in}
use Rattle.prop_term.specs.declared.any_term.AnyTerm.{AnyTerm}

-- the one reason: the constraint in the scenario
abbrev pub reasons_of : AnyTerm → List Reason
reasons_of p = Hard p.instance p.scenario ∷ []

-- the program has that constraint and that scenario
pub record Fits (p : AnyTerm) (program : Program) : Type 0 where
  pub made : IsMade program
  pub instance : p.instance < length (problem_in program).hards
  pub scenario : p.scenario < length (problem_in program).weights
