-- Bound names one by one.
use Rattle.std.proofs.Common.{◌≡◌, sym, ap, ◌∙◌, ℕ, ◌+◌, ◌<◌, ◌≤◌, ℤ, List, [], ◌∷◌, ◌++◌, map, length, get_or, drop}
use Rattle.std.proofs.lemmas.List.{at_drop_more, at_drop_all, append_assoc, append-nil}
use Rattle.sopl_ast.specs.Known.{Known, with_bound}
use Rattle.unfold_laws.specs.Conditions.{placed}
use Rattle.unfold_constraints.specs.Bindings.{binding_of}

-- what is known where more names are bound
abbrev pub bound_further : Known → List (List ℕ × ℤ) → Known
bound_further known pairs = record known { bound = known.bound ++ map binding_of pairs }

module _ (known : Known) (pairs : List (List ℕ × ℤ)) (i : ℕ) where
  -- the next one is bound
  pub bound_more : (p : List ℕ × ℤ) → i < length pairs → p ≡ get_or pairs i p
      → bound_further (with_bound p.0 p.1 known) (drop (i + 1) pairs) ≡ bound_further known (drop i pairs)
  bound_more p below at =
      ap (λ bs. placed known bs)
      (append_assoc known.bound (binding_of p ∷ []) (map binding_of (drop (i + 1) pairs))
      ∙ ap (λ q. known.bound ++ map binding_of (q ∷ drop (i + 1) pairs)) at
      ∙ ap (λ rest. known.bound ++ rest) (sym (at_drop_more (map binding_of) pairs i p below)))

  -- none is left
  pub bound_all : length pairs ≤ i → bound_further known (drop i pairs) ≡ known
  bound_all past = ap (λ bs. placed known bs) (ap (λ rest. known.bound ++ rest) (at_drop_all (map binding_of) pairs i past) ∙ append-nil known.bound)

pub ruleset copied = (bound_more, bound_all)
