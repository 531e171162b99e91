-- What the propagator of `allDifferent` stands for.
use Rattle.std.specs.Prelude.{◌≡◌, ◌⊎◌, ℕ, List, [], ◌∷◌, Some, IfSome, slice_get, length, get_or, Contains}
use Rattle.std.specs.Option.{option_and_then}
use Rattle.sopl_base.specs.declared.reason.Reason.{Reason}
use Rattle.sopl_base.specs.declared.reason.Reason.TheVariants.{Hard}
use Rattle.term_language.specs.Mentions.{terms_mention}
use Rattle.term_language.specs.Terms as rule
use Rattle.term_program.specs.Comparisons.{shape_in}
use Rattle.term_program.specs.LinearTerms.{IsOneCell}
use Rattle.term_program.specs.Programs.{IsMade, problem_in, root_in}
use Rattle.term_program.specs.declared.linear_terms.OneCell.{OneCell}
use Rattle.term_program.specs.declared.program.Program.{Program}
use Rattle.term_program.specs.declared.shapes.Form.TheVariants.{AllDifferent}
use Rattle.prop_operands.specs.Kept.{AreOperands, IsOnly, operand_term, operand_terms}
use Rattle.prop_operands.specs.declared.operands.Operand.{Operand}
use Rattle.prop_alldiff.specs.declared.all_diff.AllDiff.{AllDiff}

-- the one reason: the constraint in the scenario
abbrev pub reasons_of : AllDiff → List Reason
reasons_of p = Hard p.instance p.scenario ∷ []

-- the condition of the constraint in the scenario is `allDifferent`
abbrev pub IsAllDifferent : Program → ℕ → ℕ → Type 0
IsAllDifferent program instance scenario =
    IfSome (option_and_then (λ conditions. slice_get conditions scenario) (slice_get (problem_in program).hards instance))
    (λ cond. shape_in (root_in program) cond ≡ AllDifferent)

-- a cell stands alone in an operand that no other cell is in, and no other operand mentions it
pub record IsAlone (program : Program) (list : List Operand) (cell : ℕ) : Type 0 where
  pub place : ℕ
  pub only : IsOnly program list cell place
  pub one : OneCell
  pub is : (x : Operand) → IsOneCell (root_in program) (operand_term program (get_or list place x)) one
  pub same : one.cell ≡ cell

-- each cell is one of these, or stands alone
pub record AreOthersAlone (program : Program) (list : List Operand) (cells shared : List ℕ) : Type 0 where
  pub each : (cell : ℕ) → Contains cells cell → Contains shared cell ⊎ IsAlone program list cell

-- the program has that constraint and that scenario, and the condition is `allDifferent` of these operands
pub record Fits (p : AllDiff) (program : Program) : Type 0 where
  pub made : IsMade program
  pub condition :
      option_and_then (λ conditions. slice_get conditions p.scenario) (slice_get (problem_in program).hards p.instance)
      ≡ Some (rule.AllDifferent (operand_terms program p.operands.list.items))
  pub operands : AreOperands program p.operands
  pub others : AreOthersAlone program p.operands.list.items (terms_mention (root_in program) (operand_terms program p.operands.list.items)) p.shared.items

-- it stands for the same, and has room
pub record IsKept (before after : AllDiff) : Type 0 where
  pub instance : after.instance ≡ before.instance
  pub scenario : after.scenario ≡ before.scenario
  pub shared : after.shared ≡ before.shared
  pub list : after.operands.list ≡ before.operands.list
  pub known : length after.operands.known.items ≡ length after.operands.list.items
  pub tried : length after.operands.tried.items ≡ length after.operands.list.items
