-- Which operands mention a cell.
use Rattle.std.proofs.Common.{◌≡◌, ◌∙◌, refl, ap, sym, subst, inl, inr, ℕ, ◌+◌, ◌<◌, ◌≤◌, Bool, true, false, List, [], ◌∷◌, length, get_or, arith}
use Rattle.std.specs.List.{All}
use Rattle.std.proofs.lemmas.Bool.{cases_eq, cases_lt}
use Rattle.std.proofs.lemmas.List.{get_or_default}
use Rattle.term_language.specs.Mentions.{mentions}
use Rattle.term_program.specs.Programs.{root_in}
use Rattle.term_program.specs.declared.program.Program.{Program}
use Rattle.prop_shave.specs.Sums.{has_cell}
use Rattle.prop_shave.proofs.Mentioned.{found, listed_is, untouched}
use Rattle.prop_operands.specs.Kept.{IsOnly, IsOperand, MentionsCell, MentionsThere, NoneMentions, operand_term}
use Rattle.prop_operands.specs.declared.operands.Operand.{Operand}

-- the test on the list that is kept tells it
kept_is : (program : Program) (cell : ℕ) (x : Operand) → IsOperand program x → has_cell cell x.cells.items ≡ has_cell cell (mentions (root_in program) (operand_term program x))
kept_is program cell x is = listed_is cell (mentions (root_in program) (operand_term program x)) x.cells.items is.cells

-- none at first, one place more, and then all
pub none_at_first : (program : Program) (list : List Operand) (cell from : ℕ) → NoneMentions program list cell from from
none_at_first program list cell from = record { each = λ place x above below exists. absurd (omega (arith, above, below)) }

pub none_more : (program : Program) (list : List Operand) (cell from place : ℕ) (here : Operand) → All (IsOperand program) list → place < length list → here ≡ get_or list place here
    → has_cell cell here.cells.items ≡ false → NoneMentions program list cell from place → NoneMentions program list cell from (place + 1)
none_more program list cell from place here all exists at nowhere before = record {
  each = λ other x above below there.
      elim (cases_eq other place) [
        | inl same ↦
            subst (λ (y : Operand). ¬ MentionsCell program cell y)
            (at ∙ get_or_default list place here x exists ∙ ap (λ (n : ℕ). get_or list n x) (sym same))
            (untouched cell (mentions (root_in program) (operand_term program here))
            (sym (kept_is program cell here (subst (IsOperand program) (sym at) (all place here exists))) ∙ nowhere))
        | inr different ↦ before.each other x above (omega (arith, below, different)) there
      ];
}

pub none_left : (program : Program) (list : List Operand) (cell from place : ℕ) → length list ≤ place → NoneMentions program list cell from place → NoneMentions program list cell from (length list)
none_left program list cell from place past before = record {
  each = λ other x above below there. before.each other x above (omega (arith, below, past)) there;
}

-- the place that is found
pub found_there : (program : Program) (list : List Operand) (cell place : ℕ) (here : Operand) → All (IsOperand program) list → place < length list → here ≡ get_or list place here
    → has_cell cell here.cells.items ≡ true → MentionsThere program list cell place
found_there program list cell place here all exists at there = λ x.
    subst (MentionsCell program cell) (at ∙ get_or_default list place here x exists)
    (found cell (mentions (root_in program) (operand_term program here)) (sym (kept_is program cell here (subst (IsOperand program) (sym at) (all place here exists))) ∙ there))

-- where none or two mention the cell, none is the only one
first_of_two : (list : List Operand) (place : ℕ) → place < length list → Operand
first_of_two [] place there = absurd (omega (arith, there))
first_of_two (x ∷ list) place there = x

pub none_only : (program : Program) (list : List Operand) (cell : ℕ) → NoneMentions program list cell 0 (length list) → (place : ℕ) → ¬ IsOnly program list cell place
none_only program list cell none place only =
    none.each place (first_of_two list place only.exists) (omega arith) only.exists only.exists (only.here (first_of_two list place only.exists))

pub two_not_only : (program : Program) (list : List Operand) (cell first second : ℕ) → first < length list → MentionsThere program list cell first → first + 1 ≤ second → second < length list
    → MentionsThere program list cell second → (place : ℕ) → ¬ IsOnly program list cell place
two_not_only program list cell first second exists here behind there other place only =
    elim (cases_lt first place) [
      | inl early ↦ only.before.each first (first_of_two list first exists) (omega arith) early exists (here (first_of_two list first exists))
      | inr late ↦
          elim (cases_eq first place) [
            | inl same ↦
                only.after.each second (first_of_two list second there) (omega (arith, same, behind)) there there (other (first_of_two list second there))
            | inr different ↦
                only.after.each first (first_of_two list first exists) (omega (arith, late, different)) exists exists (here (first_of_two list first exists))
          ]
    ]
