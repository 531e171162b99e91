-- The programs that a propagator did fit.
use Rattle.std.proofs.Common.{◌≡◌, ℕ, List, Some, slice_get, subst}
use Rattle.std.specs.List.{All}
use Rattle.std.specs.Option.{option_and_then}
use Rattle.term_language.specs.Mentions.{terms_mention}
use Rattle.term_language.specs.Terms as rule
use Rattle.term_program.specs.Programs.{problem_in, root_in}
use Rattle.term_program.specs.declared.program.Program.{Program}
use Rattle.prop_operands.specs.Kept.{IsOperand, operand_terms}
use Rattle.prop_operands.specs.declared.operands.Operand.{Operand}
use Rattle.prop_alldiff.specs.Kinds.{AreOthersAlone, Fits, IsKept}
use Rattle.prop_alldiff.specs.declared.all_diff.AllDiff.{AllDiff}

-- the condition of a constraint in a scenario is `allDifferent` of these operands
abbrev pub IsOf : Program → ℕ → ℕ → List Operand → Type 0
IsOf program instance scenario list =
    option_and_then (λ conditions. slice_get conditions scenario) (slice_get (problem_in program).hards instance) ≡ Some (rule.AllDifferent (operand_terms program list))

-- it stood for the same
pub fitted : (old new : AllDiff) (program other : Program) → IsKept old new → Fits old program → Fits new other → Fits old other
fitted old new program other kept made fits = record {
  made = fits.made;
  condition = subst (λ (i : ℕ). IsOf other i old.scenario old.operands.list.items) kept.instance
      (subst (λ (s : ℕ). IsOf other new.instance s old.operands.list.items) kept.scenario
      (subst (λ list. IsOf other new.instance new.scenario list.items) kept.list fits.condition));
  operands = record { each = subst (λ list. All (IsOperand other) list.items) kept.list fits.operands.each; known = made.operands.known; tried = made.operands.tried };
  others = subst (λ list. AreOthersAlone other list.items (terms_mention (root_in other) (operand_terms other list.items)) old.shared.items) kept.list
      (subst (λ shared. AreOthersAlone other new.operands.list.items (terms_mention (root_in other) (operand_terms other new.operands.list.items)) shared.items) kept.shared fits.others);
}
