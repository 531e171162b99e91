-- What the propagator of `cumulative` stands for.
use Rattle.std.specs.Prelude.{◌≡◌, ℕ, List, [], ◌∷◌, Some, IfSome, slice_get, length}
use Rattle.std.specs.Option.{option_and_then}
use Rattle.sopl_base.specs.declared.reason.Reason.{Reason}
use Rattle.sopl_base.specs.declared.reason.Reason.TheVariants.{Hard}
use Rattle.term_language.specs.Terms as rule
use Rattle.term_program.specs.Comparisons.{shape_in}
use Rattle.term_program.specs.Globals.{tasks_then}
use Rattle.term_program.specs.Programs.{IsMade, problem_in, root_in}
use Rattle.term_program.specs.declared.program.Program.{Program}
use Rattle.term_program.specs.declared.shapes.Form.TheVariants.{Cumulative}
use Rattle.prop_operands.specs.Kept.{AreOperands, operand_terms}
use Rattle.prop_cumul.specs.Profiles.{HasTasks}
use Rattle.prop_cumul.specs.declared.cumul.Cumul.{Cumul}

-- the one reason: the constraint in the scenario
abbrev pub reasons_of : Cumul → List Reason
reasons_of p = Hard p.instance p.scenario ∷ []

-- the condition of the constraint in the scenario is `cumulative`
abbrev pub IsCumulative : Program → ℕ → ℕ → Type 0
IsCumulative program instance scenario =
    IfSome (option_and_then (λ conditions. slice_get conditions scenario) (slice_get (problem_in program).hards instance))
    (λ cond. shape_in (root_in program) cond ≡ Cumulative)

-- the condition is `cumulative`, of these operands
pub record IsOfTasks (p : Cumul) (program : Program) : Type 0 where
  pub tasks : rule.Tasks
  pub capacity : rule.Term
  pub condition :
      option_and_then (λ conditions. slice_get conditions p.scenario) (slice_get (problem_in program).hards p.instance)
      ≡ Some (rule.Cumulative tasks capacity)
  pub terms : operand_terms program p.operands.list.items ≡ tasks_then tasks (rule.term capacity rule.no_term)

-- the program has that constraint and that scenario, and there is room for its operands
pub record Fits (p : Cumul) (program : Program) : Type 0 where
  pub made : IsMade program
  pub condition : IsOfTasks p program
  pub operands : AreOperands program p.operands
  pub room : HasTasks p.profile (length p.operands.list.items)

-- it stands for the same, and has room
pub record IsKept (before after : Cumul) : Type 0 where
  pub instance : after.instance ≡ before.instance
  pub scenario : after.scenario ≡ before.scenario
  pub list : after.operands.list ≡ before.operands.list
  pub known : length after.operands.known.items ≡ length after.operands.list.items
  pub tried : length after.operands.tried.items ≡ length after.operands.list.items
  pub room : (count : ℕ) → HasTasks before.profile count → HasTasks after.profile count
