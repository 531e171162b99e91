-- Bound names, one by one.
use Rattle.std.proofs.Common.{◌≡◌, refl, sym, ap, ◌∙◌, ℕ, zero, suc, ◌+◌, ◌-◌, ◌<◌, ◌≤◌, ℤ, true, false, cond, List, [], ◌∷◌, ◌++◌, length, get_or, take, drop, Some, None, arith}
use Rattle.std.proofs.lemmas.List.{at_drop_more, at_drop_all, length-append}
use Rattle.std.proofs.Math.Seq.{take-append_seam}
use Rattle.std.specs.Borrow.{Bor}
use Rattle.sopl_ast.specs.Known.{bound_value, is_at}
use Rattle.unfold_constants.specs.Here.{bindings_in}

-- one name more, behind the others
pub bindings_more : (bound : List (Bor (List ℕ) × ℤ)) (b : Bor (List ℕ)) (value : ℤ)
    → bindings_in (bound ++ (b, value) ∷ []) ≡ bindings_in bound ++ (record { name = b.now; value = value }) ∷ []
bindings_more [] b value = refl
bindings_more (first ∷ later) b value = ap (λ rest. (record { name = first.0.now; value = first.1 }) ∷ rest) (bindings_more later b value)

-- a list without its last item
pub take_prefix : {A : Type 0} (xs : List A) (x : A) → take (length (xs ++ x ∷ []) - 1) (xs ++ x ∷ []) ≡ xs
take_prefix xs x = (λ i. take (one_fewer i) (xs ++ x ∷ [])) ∙ take-append_seam xs (x ∷ [])
  where
    one_fewer : length (xs ++ x ∷ []) - 1 ≡ length xs
    one_fewer = omega (arith, length-append xs (x ∷ []))

bindings_taken : (n : ℕ) (bound : List (Bor (List ℕ) × ℤ)) → bindings_in (take n bound) ≡ take n (bindings_in bound)
bindings_taken zero bound = refl
bindings_taken (suc n) [] = refl
bindings_taken (suc n) (first ∷ later) = ap (λ rest. (record { name = first.0.now; value = first.1 }) ∷ rest) (bindings_taken n later)

bindings_length : (bound : List (Bor (List ℕ) × ℤ)) → length (bindings_in bound) ≡ length bound
bindings_length [] = refl
bindings_length (first ∷ later) = ap suc (bindings_length later)

-- one name fewer
pub bindings_fewer : (bound fewer : List (Bor (List ℕ) × ℤ)) → fewer ≡ take (length bound - 1) bound
    → bindings_in fewer ≡ take (length (bindings_in bound) - 1) (bindings_in bound)
bindings_fewer bound fewer is =
    ap bindings_in is ∙ bindings_taken (length bound - 1) bound ∙ (λ i. take (sym (bindings_length bound) i - 1) (bindings_in bound))

module _ (name : List ℕ) (index : List ℤ) (bound : List (Bor (List ℕ) × ℤ)) (i : ℕ) where
  -- the next bound name is another
  pub bound_more : (b : Bor (List ℕ) × ℤ) → i < length bound → b ≡ get_or bound i b → is_at name index b.0.now [] ≡ false
      → bound_value name index (bindings_in (drop (i + 1) bound)) ≡ bound_value name index (bindings_in (drop i bound))
  bound_more b below at other =
      sym (ap (λ t. cond t (Some b.1) (bound_value name index (bindings_in (drop (i + 1) bound)))) other)
      ∙ ap (λ c. bound_value name index (bindings_in (c ∷ drop (i + 1) bound))) at
      ∙ sym (at_drop_more (λ rest. bound_value name index (bindings_in rest)) bound i b below)

  -- the next bound name is the one
  pub bound_here : (b : Bor (List ℕ) × ℤ) → i < length bound → b ≡ get_or bound i b → is_at name index b.0.now [] ≡ true
      → bound_value name index (bindings_in (drop i bound)) ≡ Some b.1
  bound_here b below at one =
      at_drop_more (λ rest. bound_value name index (bindings_in rest)) bound i b below
      ∙ sym (ap (λ c. bound_value name index (bindings_in (c ∷ drop (i + 1) bound))) at)
      ∙ ap (λ t. cond t (Some b.1) (bound_value name index (bindings_in (drop (i + 1) bound)))) one

  -- no name is left
  pub bound_end : length bound ≤ i → bound_value name index (bindings_in (drop i bound)) ≡ None
  bound_end past = at_drop_all (λ rest. bound_value name index (bindings_in rest)) bound i past

pub ruleset bindings = (bound_more, bound_here, bound_end)
