-- The programs that a propagator did fit.
use Rattle.std.proofs.Common.{◌≡◌, ℕ, Some, slice_get, subst}
use Rattle.std.specs.List.{All}
use Rattle.std.specs.Option.{option_and_then}
use Rattle.term_language.specs.Terms as rule
use Rattle.term_program.specs.Globals.{tasks_then}
use Rattle.term_program.specs.Programs.{problem_in}
use Rattle.term_program.specs.declared.program.Program.{Program}
use Rattle.prop_operands.specs.Kept.{IsOperand, operand_terms}
use Rattle.prop_cumul.specs.Kinds.{Fits, IsKept}
use Rattle.prop_cumul.specs.declared.cumul.Cumul.{Cumul}

-- the condition of a constraint in a scenario is `cumulative` of these
abbrev pub IsOf : Program → ℕ → ℕ → rule.Tasks → rule.Term → Type 0
IsOf program instance scenario tasks capacity =
    option_and_then (λ conditions. slice_get conditions scenario) (slice_get (problem_in program).hards instance) ≡ Some (rule.Cumulative tasks capacity)

-- it stood for the same
pub fitted : (old new : Cumul) (program other : Program) → IsKept old new → Fits old program → Fits new other → Fits old other
fitted old new program other kept made fits =
    let tasks = fits.condition.tasks in
    let capacity = fits.condition.capacity in
    record {
      made = fits.made;
      condition = record {
        tasks = tasks;
        capacity = capacity;
        condition = subst (λ (i : ℕ). IsOf other i old.scenario tasks capacity) kept.instance
            (subst (λ (s : ℕ). IsOf other new.instance s tasks capacity) kept.scenario fits.condition.condition);
        terms = subst (λ list. operand_terms other list.items ≡ tasks_then tasks (rule.term capacity rule.no_term)) kept.list fits.condition.terms;
      };
      operands = record { each = subst (λ list. All (IsOperand other) list.items) kept.list fits.operands.each; known = made.operands.known; tried = made.operands.tried };
      room = made.room;
    }
