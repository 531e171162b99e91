-- What the propagator of a linear comparison stands for.
use Rattle.std.specs.Prelude.{◌≡◌, ℕ, ℤ, List, [], ◌∷◌, length, Option, Some, IfSome, Contains, option_map, slice_get}
use Rattle.std.specs.Option.{option_and_then}
use Rattle.sopl_base.specs.declared.reason.Reason.{Reason}
use Rattle.sopl_base.specs.declared.reason.Reason.TheVariants.{Hard}
use Rattle.box_problem.specs.Box.{Box, Inside}
use Rattle.term_language.specs.Mentions.{cond_mentions}
use Rattle.term_language.specs.Terms.{Cond}
use Rattle.term_problem.specs.Refuted.{refutes}
use Rattle.term_nodes.specs.Things.{cond_at}
use Rattle.term_program.specs.declared.program.Program.{Program}
use Rattle.term_program.specs.declared.shapes.Form.TheVariants.{Linear}
use Rattle.term_program.specs.Comparisons.{linear_in, shape_in}
use Rattle.term_program.specs.Mentions.{IsListOf}
use Rattle.term_program.specs.Programs.{IsMade, problem_in, root_in, things_in}
use Rattle.term_program.specs.Stated.{box_problem_of}
use Rattle.term_math.specs.declared.forms.Coefficient.{Coefficient}
use Rattle.term_math.specs.Shown.{cells_of}
use Rattle.prop_core.specs.Watches.{HasRested, LooksAt}
use Rattle.prop_linear.specs.declared.balances.Difference.{Difference}
use Rattle.prop_linear.specs.declared.comparisons.Linear as own
use Rattle.prop_linear.specs.declared.linear_constraint.LinearConstraint.{LinearConstraint}
use Rattle.prop_linear.specs.Balances.{closes}
use Rattle.prop_linear.specs.KeptSums.{HasPlaces, SumsUpIfKnown}

-- the one reason: the constraint in the scenario
abbrev pub reason_of : LinearConstraint → Reason
reason_of c = Hard c.instance c.scenario

abbrev pub reasons_of : own.Linear → List Reason
reasons_of p = reason_of p.constraint ∷ []

-- the condition of the constraint in the scenario is a linear comparison
abbrev pub IsLinear : Program → ℕ → ℕ → Type 0
IsLinear program instance scenario =
    IfSome (option_and_then (λ conditions. slice_get conditions scenario) (slice_get (problem_in program).hards instance))
    (λ cond. shape_in (root_in program) cond ≡ Linear)

-- the condition that is kept
abbrev pub condition_of : LinearConstraint → Program → Cond
condition_of c program = cond_at (things_in program) c.cond.0

-- the program has that constraint and that scenario, and its condition there is a linear comparison with this operator, this constant and
-- these cells
pub record IsLinearOf (c : LinearConstraint) (program : Program) : Type 0 where
  pub made : IsMade program
  pub condition : option_and_then (λ conditions. slice_get conditions c.scenario) (slice_get (problem_in program).hards c.instance)
      ≡ Some (condition_of c program)
  pub linear : shape_in (root_in program) (condition_of c program) ≡ Linear
  pub op : option_map (λ d. d.op) (linear_in (root_in program) (condition_of c program)) ≡ Some c.op
  pub constant : option_map (λ d. d.form.constant) (linear_in (root_in program) (condition_of c program)) ≡ Some c.constant
  pub parts : option_map (λ d. d.form.cells) (linear_in (root_in program) (condition_of c program)) ≡ Some (cells_of c.parts.items)

-- the cells of its parts are watched
pub record AreWatched (c : LinearConstraint) : Type 0 where
  pub each : (part : Coefficient) → Contains c.parts.items part → Contains c.cells.items part.cell

-- the watched cells are just those that the condition mentions, ascending; its reason looks at them alone, and there is a place for each of its
-- parts
pub record Fits (p : own.Linear) (program : Program) : Type 0 where
  pub constraint : IsLinearOf p.constraint program
  pub watched : AreWatched p.constraint
  pub listed : IsListOf (cond_mentions (root_in program) (condition_of p.constraint program)) p.constraint.cells.items
  pub looks : LooksAt (box_problem_of program) (reasons_of p) p.constraint.cells.items
  pub places : HasPlaces (length p.constraint.parts.items) p.sum

-- what it keeps of its sum over a box
abbrev pub KeepsSumOf : own.Linear → Box → Type 0
KeepsSumOf p b = SumsUpIfKnown p.constraint.constant p.constraint.parts.items b p.sum

-- this is right, and it rests there, if it has rested
pub record InStep (p : own.Linear) (program : Program) (b : Box) : Type 0 where
  pub sum : KeepsSumOf p b
  pub rested : HasRested (box_problem_of program) (reasons_of p) p.rested b

-- the comparison is false over a box exactly where the reason closes it
pub record TellsOf (program : Program) (reason : Reason) (d : Difference) : Type 0 where
  pub tells : (b : Box) (v : Option ℤ) → Inside b (root_in program)
      → closes d b ≡ refutes (root_in program) (problem_in program) reason b v
