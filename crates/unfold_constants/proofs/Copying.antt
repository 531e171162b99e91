-- Bound names are copied one by one.
use Rattle.std.proofs.Common.{◌≡◌, sym, ap, ◌∙◌, ℕ, ◌+◌, ◌<◌, ◌≤◌, ℤ, List, [], ◌∷◌, ◌++◌, length, get_or, drop}
use Rattle.std.proofs.lemmas.List.{at_drop_more, at_drop_all, append_assoc, append-nil}
use Rattle.std.specs.Borrow.{Bor}
use Rattle.sopl_ast.specs.Known.{Known, with_bound}
use Rattle.unfold_constants.specs.Here.{bindings_in}

-- what is known where these are bound too
abbrev pub all_bound : Known → List (Bor (List ℕ) × ℤ) → Known
all_bound known bs = record known { bound = known.bound ++ bindings_in bs }

module _ (known : Known) (bs : List (Bor (List ℕ) × ℤ)) (i : ℕ) where
  -- the next one is bound
  pub copied_more : (b : Bor (List ℕ) × ℤ) → i < length bs → b ≡ get_or bs i b
      → all_bound (with_bound b.0.now b.1 known) (drop (i + 1) bs) ≡ all_bound known (drop i bs)
  copied_more b below at =
      ap (λ all. record known { bound = all })
      (append_assoc known.bound (bindings_in (b ∷ [])) (bindings_in (drop (i + 1) bs))
      ∙ ap (λ c. known.bound ++ bindings_in (c ∷ drop (i + 1) bs)) at
      ∙ ap (λ rest. known.bound ++ rest) (sym (at_drop_more bindings_in bs i b below)))

  -- none is left
  pub copied_all : length bs ≤ i → all_bound known (drop i bs) ≡ known
  copied_all past = ap (λ all. record known { bound = all }) (ap (λ rest. known.bound ++ rest) (at_drop_all bindings_in bs i past) ∙ append-nil known.bound)

pub ruleset copying = (copied_more, copied_all)
