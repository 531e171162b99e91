-- Bound names with their values, one by one.
use Rattle.std.proofs.Common.{◌≡◌, sym, ap, ◌∙◌, ℕ, ◌+◌, ◌<◌, ◌≤◌, ℤ, List, [], ◌∷◌, ◌++◌, length, get_or, drop}
use Rattle.std.proofs.lemmas.List.{at_drop_more, at_drop_all, append_assoc, append-nil}
use Rattle.std.specs.Borrow.{Bor}
use Rattle.sopl_ast.specs.Known.{Binding}
use Rattle.unfold_constants.specs.Here.{bindings_in}

module _ (found : List Binding) (bound : List (Bor (List ℕ) × ℤ)) (i : ℕ) where
  -- the next one is copied
  pub copied_more : (b : Bor (List ℕ) × ℤ) → i < length bound → b ≡ get_or bound i b
      → (found ++ (record { name = b.0.now; value = b.1 }) ∷ []) ++ bindings_in (drop (i + 1) bound) ≡ found ++ bindings_in (drop i bound)
  copied_more b below at =
      append_assoc found ((record { name = b.0.now; value = b.1 }) ∷ []) (bindings_in (drop (i + 1) bound))
      ∙ ap (λ c. found ++ bindings_in (c ∷ drop (i + 1) bound)) at
      ∙ ap (λ rest. found ++ rest) (sym (at_drop_more (λ rest. bindings_in rest) bound i b below))

  -- none is left
  pub copied_all : length bound ≤ i → found ++ bindings_in (drop i bound) ≡ found
  copied_all past = ap (λ rest. found ++ rest) (at_drop_all (λ rest. bindings_in rest) bound i past) ∙ append-nil found

pub ruleset copies = (copied_more, copied_all)
