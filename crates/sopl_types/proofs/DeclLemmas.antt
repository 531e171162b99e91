-- The walk over declarations: each name is known behind its own.
use Rattle.std.proofs.Common.{◌≡◌, refl, sym, ap, ◌∙◌, ℕ, ◌+◌, ◌<◌, ◌≤◌, List, ◌∷◌, map, length, get_or, drop, Option}
use Rattle.std.proofs.lemmas.List.{at_drop_more, at_drop_all}
use Rattle.sopl_base.specs.declared.fault.Refusal.{Refusal}
use Rattle.sopl_ast.specs.declared.decls.Decl.{Decl}
use Rattle.sopl_ast.specs.Decls.{declaration}
use Rattle.sopl_ast.specs.Mistakes.{Scope, entity_of, of_declaration, declare, of_declarations, declare_all}
use Rattle.sopl_types.specs.Earliest.{earlier_of, earliest}
use Rattle.sopl_types.proofs.EarliestLemmas.{earlier_none, earlier_three, earliest_both}
use Rattle.sopl_types.proofs.Walks.{walk_end}
use Rattle.sopl_types.proofs.Scopes.{Same, same_scope}

module _ (xs : List Decl) (i : ℕ) (s r : Scope) (x : Decl) (below : i < length xs) (at : x ≡ get_or xs i x) (after : Same r (declare (declaration x) s)) where
  -- the mistakes, with the next declaration
  pub decls_more : (first : Option Refusal) →
      earlier_of (earlier_of first (earliest (of_declaration s (declaration x)))) (earliest (of_declarations r (map declaration (drop (i + 1) xs))))
      ≡ earlier_of first (earliest (of_declarations s (map declaration (drop i xs))))
  decls_more first =
      ap (λ ms. earlier_of (earlier_of first (earliest (of_declaration s (declaration x)))) (earliest ms))
      (ap (λ known. of_declarations known (map declaration (drop (i + 1) xs))) (same_scope r (declare (declaration x) s) after))
      ∙ earlier_three first (earliest (of_declaration s (declaration x))) (earliest (of_declarations (declare (declaration x) s) (map declaration (drop (i + 1) xs))))
      ∙ ap (earlier_of first) (sym (earliest_both (of_declaration s (declaration x)) (of_declarations (declare (declaration x) s) (map declaration (drop (i + 1) xs))))
      ∙ ap (λ y. earliest (of_declarations s (map declaration (y ∷ drop (i + 1) xs)))) at
      ∙ sym (at_drop_more (λ ys. earliest (of_declarations s (map declaration ys))) xs i x below))

  -- the names, with the next one
  pub names_more : Same (declare_all (map declaration (drop (i + 1) xs)) r) (declare_all (map declaration (drop i xs)) s)
  names_more = λ name.
      ap (λ known. entity_of (declare_all (map declaration (drop (i + 1) xs)) known) name) (same_scope r (declare (declaration x) s) after)
      ∙ ap (λ y. entity_of (declare_all (map declaration (y ∷ drop (i + 1) xs)) s) name) at
      ∙ sym (at_drop_more (λ ys. entity_of (declare_all (map declaration ys) s) name) xs i x below)

module _ (xs : List Decl) (i : ℕ) (s : Scope) (past : length xs ≤ i) where
  pub decls_end : (first : Option Refusal) → earlier_of first (earliest (of_declarations s (map declaration (drop i xs)))) ≡ first
  decls_end first = walk_end (λ ys. of_declarations s (map declaration ys)) first xs i refl past

  pub names_end : declare_all (map declaration (drop i xs)) s ≡ s
  names_end = at_drop_all (λ ys. declare_all (map declaration ys) s) xs i past

pub ruleset decl_lemmas = (earlier_none, decls_end, names_end)
