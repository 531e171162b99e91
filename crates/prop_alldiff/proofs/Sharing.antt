-- Which cells of `allDifferent` stand alone.
use Rattle.std.proofs.Common.{◌≡◌, ◌⊎◌, inl, inr, ap, sym, subst, ℕ, ◌+◌, ◌<◌, ◌≤◌, Bool, true, false, not, if◌then◌else◌, List, [], ◌∷◌, ◌++◌, length, get_or, take, arith, refl, ◌∙◌}
use Rattle.std.specs.List.{Contains}
use Rattle.std.proofs.lemmas.List.{append-nil, take_all, take_more}
use Rattle.std.proofs.lemmas.List.Elements.{Contains-append_cases, Contains-append_left, Contains-append_right}
use Rattle.sopl_base.proofs.Lists.{contains_one}
use Rattle.term_nodes.specs.Things.{term_at}
use Rattle.term_program.specs.LinearTerms.{IsOneCell}
use Rattle.term_program.specs.Programs.{root_in, things_in}
use Rattle.term_store.specs.declared.ids.TermId.{TermId}
use Rattle.term_program.specs.declared.linear_terms.OneCell.{OneCell}
use Rattle.term_program.specs.declared.program.Program.{Program}
use Rattle.prop_operands.specs.Kept.{IsOnly}
use Rattle.prop_operands.specs.declared.operands.Operand.{Operand}
use Rattle.prop_alldiff.specs.Kinds.{AreOthersAlone, IsAlone}

pub alone_there : (program : Program) (list : List Operand) (cell place : ℕ) (term : TermId) (one : OneCell) → IsOnly program list cell place → ((x : Operand) → term ≡ (get_or list place x).term)
    → IsOneCell (root_in program) (term_at (things_in program) term.0) one → one.cell ≡ cell → IsAlone program list cell
alone_there program list cell place term one only same is here = record {
  place = place;
  only = only;
  one = one;
  is = λ x. subst (λ (t : TermId). IsOneCell (root_in program) (term_at (things_in program) t.0) one) (same x) is;
  same = here;
}

-- of no cell, of one cell more, and then of all
pub no_cell : (program : Program) (list : List Operand) → AreOthersAlone program list [] []
no_cell program list = record { each = λ cell there. absurd (omega (arith, there.1)) }

last_cell : (program : Program) (list : List Operand) (cell other : ℕ) (shared : List ℕ) (alone : Bool) → (alone ≡ true → IsAlone program list cell) → cell ≡ other
    → Contains (shared ++ (if not alone then cell ∷ [] else [])) other ⊎ IsAlone program list other
last_cell program list cell other shared true is same = inr (subst (IsAlone program list) same (is refl))
last_cell program list cell other shared false is same =
    inl (Contains-append_right shared (cell ∷ []) other (0, omega arith, same))

pub next_cell : (program : Program) (list : List Operand) (cells : List ℕ) (i cell : ℕ) (shared new : List ℕ) (alone : Bool) → i < length cells → cell ≡ get_or cells i cell
    → (alone ≡ true → IsAlone program list cell) → new ≡ shared ++ (if not alone then cell ∷ [] else []) → AreOthersAlone program list (take i cells) shared
    → AreOthersAlone program list (take (i + 1) cells) new
next_cell program list cells i cell shared new alone exists at is added before =
    let longer : take (i + 1) cells ≡ take i cells ++ cell ∷ [] = take_more cells i cell exists ∙ ap (λ (n : ℕ). take i cells ++ n ∷ []) (sym at) in
    subst (λ (ns : List ℕ). AreOthersAlone program list (take (i + 1) cells) ns) (sym added)
    (record {
      each = λ other there.
          elim (Contains-append_cases (take i cells) (cell ∷ []) other (subst (λ (ns : List ℕ). Contains ns other) longer there)) [
            | inl early ↦
                elim (before.each other early) [
                  | inl here ↦ inl (Contains-append_left shared (if not alone then cell ∷ [] else []) other here)
                  | inr single ↦ inr single
                ]
            | inr last ↦ last_cell program list cell other shared alone is (contains_one cell other last)
          ];
    })

pub all_cells : (program : Program) (list : List Operand) (cells shared : List ℕ) (i : ℕ) → length cells ≤ i → AreOthersAlone program list (take i cells) shared → AreOthersAlone program list cells shared
all_cells program list cells shared i past before = subst (λ (ns : List ℕ). AreOthersAlone program list ns shared) (take_all i cells past) before
