-- Going through declarations, one after the other.
use Rattle.std.proofs.Common.{◌≡◌, sym, ap, subst, ◌∙◌, ◌⊎◌, ℕ, ◌+◌, ◌<◌, List, ◌∷◌, map, drop, length, get_or, Ok, Err}
use Rattle.std.proofs.lemmas.List.{drop_more}
use Rattle.sopl_base.specs.declared.fault.Fault.{Fault}
use Rattle.sopl_base.specs.declared.fault.Fault.TheVariants.{NoMemory}
use Rattle.sopl_ast.specs.declared.decls.Decl.{Decl}
use Rattle.sopl_ast.specs.Decls.{declaration}
use Rattle.sopl_ast.specs.Whole.{Declaration}
use Rattle.sopl_ast.specs.UnfoldEvents.{first_failure}
use Rattle.sopl_ast.specs.Declarations.{Declared, nothing_declared, behind, behind_all, declaration_events, declarations_events}
use Rattle.sopl_unfold.proofs.Ways.{met_first, stopped_first, stopped_same}

-- what is left of declarations leads where all of them do
abbrev pub Leads : List Declaration → ℕ → List Declaration → Declared → ℕ → Type 0
Leads all before left found count =
    (behind_all left found ≡ behind_all all nothing_declared)
    × (first_failure count (declarations_events found left) ≡ first_failure before (declarations_events nothing_declared all))

module _ (all : List Declaration) (before : ℕ) (items : List Decl) (i : ℕ) (x : Decl) (within : i < length items) (is : x ≡ get_or items i x) (found : Declared) (count : ℕ)
    (leads : Leads all before (map declaration (drop i items)) found count) where
  left : map declaration (drop i items) ≡ declaration x ∷ map declaration (drop (i + 1) items)
  left = ap (map declaration) (drop_more items i x within ∙ ap (λ y. y ∷ drop (i + 1) items) (sym is))

  here : Leads all before (declaration x ∷ map declaration (drop (i + 1) items)) found count
  here = subst (λ ds. Leads all before ds found count) left leads

  -- one declaration more
  pub leads_on : (new : Declared) (next : ℕ) → new ≡ behind (declaration x) found → first_failure count (declaration_events found (declaration x)) ≡ Ok next
      → Leads all before (map declaration (drop (i + 1) items)) new next
  leads_on new next made walked =
      subst (λ (d : Declared). Leads all before (map declaration (drop (i + 1) items)) d next) (sym made) (
        here.0,
        sym (met_first count next (declaration_events found (declaration x)) (declarations_events (behind (declaration x) found) (map declaration (drop (i + 1) items))) walked)
            ∙ here.1,
      )

  -- a declaration that is refused, or passes a limit
  pub leads_to_fault : (f : Fault) → (f ≡ NoMemory) ⊎ (first_failure count (declaration_events found (declaration x)) ≡ Err f)
      → (f ≡ NoMemory) ⊎ (first_failure before (declarations_events nothing_declared all) ≡ Err f)
  leads_to_fault f stopped =
      stopped_same before (declarations_events nothing_declared all) (first_failure count (declarations_events found (declaration x ∷ map declaration (drop (i + 1) items)))) f here.1
      (stopped_first count (declaration_events found (declaration x)) (declarations_events (behind (declaration x) found) (map declaration (drop (i + 1) items))) f stopped)
