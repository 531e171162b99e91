-- Operands as they are listed.
use Rattle.std.proofs.Common.{◌≡◌, ◌∙◌, refl, ap, sym, subst, ℕ, zero, suc, ◌+◌, ◌<◌, ◌≤◌, List, [], ◌∷◌, ◌++◌, length, map, get_or, take, arith}
use Rattle.std.specs.List.{All}
use Rattle.std.proofs.lemmas.List.{map-append, take_all, take_more}
use Rattle.std.proofs.lemmas.List.Elements.{All-append, All-cons, All-nil}
use Rattle.term_nodes.specs.Built.{AllBelow}
use Rattle.term_program.specs.Globals.{term_ids}
use Rattle.term_store.specs.declared.ids.TermId.{TermId}
use Rattle.term_program.specs.declared.program.Program.{Program}
use Rattle.prop_operands.specs.Kept.{IsOperand, operand_ids}
use Rattle.prop_operands.specs.declared.operands.Operand.{Operand}

-- each of the terms exists
pub below_there : (n : ℕ) (terms : List TermId) (i : ℕ) (x : TermId) → AllBelow n (term_ids terms) → i < length terms → x ≡ get_or terms i x → x.0 < n
below_there n [] i x all exists at = absurd (omega (arith, exists))
below_there n (first ∷ terms) zero x all exists at = subst (λ (t : TermId). t.0 < n) (sym at) all.0
below_there n (first ∷ terms) (suc i) x all exists at = below_there n terms i x all.1 (omega (arith, exists)) at

-- one operand more, and then all of them
pub record AreListed (program : Program) (terms : List TermId) (i : ℕ) (list : List Operand) : Type 0 where
  pub each : All (IsOperand program) list
  pub ids : operand_ids list ≡ term_ids (take i terms)

pub none_listed : (program : Program) (terms : List TermId) → AreListed program terms 0 []
none_listed program terms = record { each = All-nil (IsOperand program); ids = refl }

pub next_listed : (program : Program) (terms : List TermId) (i : ℕ) (term : TermId) (list new : List Operand) (x : Operand) → i < length terms → term ≡ get_or terms i term → IsOperand program x
    → x.term ≡ term → new ≡ list ++ x ∷ [] → AreListed program terms i list → AreListed program terms (i + 1) new
next_listed program terms i term list new x exists at is same pushed so_far =
    subst (AreListed program terms (i + 1)) (sym pushed)
    (record {
      each = All-append (IsOperand program) list (x ∷ []) so_far.each (All-cons (IsOperand program) x [] is (All-nil (IsOperand program)));
      ids =
          map-append (λ (y : Operand). y.term.0) list (x ∷ [])
          ∙ ap (λ (ids : List ℕ). ids ++ x.term.0 ∷ []) so_far.ids
          ∙ ap (λ (t : TermId). term_ids (take i terms) ++ t.0 ∷ []) (same ∙ at)
          ∙ sym (map-append (λ (t : TermId). t.0) (take i terms) (get_or terms i term ∷ []))
          ∙ ap term_ids (sym (take_more terms i term exists));
    })

pub all_listed : (program : Program) (terms : List TermId) (i : ℕ) (list : List Operand) → length terms ≤ i → AreListed program terms i list → operand_ids list ≡ term_ids terms
all_listed program terms i list past so_far = so_far.ids ∙ ap term_ids (take_all i terms past)
