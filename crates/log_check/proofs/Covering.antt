-- What a walk leaves to be looked at covers what is not known.
use Rattle.std.proofs.Common.{◌≡◌, ◌⊎◌, inl, inr, ℕ, zero, suc, ◌<◌, ◌≤◌, List, [], ◌∷◌, length, Option, None, Some, refl, sym, ap, subst, arith}
use Rattle.log_rows.specs.declared.rows.Parent.{Parent}
use Rattle.log_rows.specs.declared.rows.Row.{Row}
use Rattle.log_rows.specs.Rows.{row_at, AreOrdered, Hangs}
use Rattle.log_check.specs.Walks.{IsAmong, IsChild, IsAmongOrBelow, CoversRows, here, below}

-- a row below another one, or this one itself
data From (rows : List Row) (i : ℕ) : ℕ → Type 0 where
  self : (k : ℕ) → k ≡ i → From rows i k
  down : (k j : ℕ) → IsChild rows k j → From rows i j → From rows i k

apart : (rows : List Row) (i : ℕ) (pending : List ℕ) (k : ℕ) → IsAmongOrBelow rows (i ∷ pending) k → IsAmongOrBelow rows pending k ⊎ From rows i k
apart rows i pending k (here _ (inl same)) = inr (self k same)
apart rows i pending k (here _ (inr other)) = inl (here k other)
apart rows i pending k (below _ j child under) = by_parent (apart rows i pending j under)
  where
    by_parent : IsAmongOrBelow rows pending j ⊎ From rows i j → IsAmongOrBelow rows pending k ⊎ From rows i k
    by_parent (inl under) = inl (below k j child under)
    by_parent (inr from) = inr (down k j child from)

-- what is below a row stands behind it
child_later : (rows : List Row) → AreOrdered rows → (k j : ℕ) → k < length rows → IsChild rows k j → j < k
child_later rows ordered k j exists child = by_parent (row_at rows k).parent (ordered k exists) child.is
  where
    by_parent : (p : Option Parent) → Hangs rows k p → p ≡ Some (record { node = j; side = child.side }) → j < k
    by_parent None hangs is = absurd (cc)
    by_parent (Some parent) hangs is = subst (λ n. n < k) (ap node_in is) hangs.earlier
      where
        node_in : Option Parent → ℕ
        node_in None = 0
        node_in (Some parent) = parent.node

from_later : (rows : List Row) → AreOrdered rows → (i k : ℕ) → k < length rows → From rows i k → i ≤ k
from_later rows ordered i k exists (self _ same) = omega (arith, same)
from_later rows ordered i k exists (down _ j child from) =
    let before = child_later rows ordered k j exists child in
    omega (arith, before, from_later rows ordered i j (omega (arith, before, exists)) from)

module _ (rows : List Row) (ordered : AreOrdered rows) where
  under_root : (k m : ℕ) → k < m → k < length rows → IsAmongOrBelow rows (0 ∷ []) k
  under_root k zero small exists = absurd (omega (arith, small))
  under_root k (suc m) small exists = by_parent (row_at rows k).parent refl (ordered k exists) (λ j before. under_root j m (omega (arith, small, before)) (omega (arith, before, exists)))
    where
      by_parent : (p : Option Parent) → (row_at rows k).parent ≡ p → Hangs rows k p → ((j : ℕ) → j < k → IsAmongOrBelow rows (0 ∷ []) j) → IsAmongOrBelow rows (0 ∷ []) k
      by_parent None is hangs again = here k (inl hangs)
      by_parent (Some parent) is hangs again = below k parent.node (record { side = parent.side; is = is }) (again parent.node hangs.earlier)

  pub all_first : (Done : ℕ → Type 0) → CoversRows rows Done (0 ∷ [])
  all_first Done = record { each = λ k exists. inr (under_root k (suc k) (omega arith) exists) }

  -- a row below which nothing need be looked at
  pub all_cut : (Done New : ℕ → Type 0) (i : ℕ) (pending : List ℕ) → CoversRows rows Done (i ∷ pending) → ((k : ℕ) → Done k → New k) → ((k : ℕ) → i ≤ k → k < length rows → New k) → CoversRows rows New pending
  all_cut Done New i pending covers kept later = record { each = each }
    where
      each : (k : ℕ) → k < length rows → New k ⊎ IsAmongOrBelow rows pending k
      each k exists = by_old (covers.each k exists)
        where
          by_from : IsAmongOrBelow rows pending k ⊎ From rows i k → New k ⊎ IsAmongOrBelow rows pending k
          by_from (inl under) = inr under
          by_from (inr from) = inl (later k (from_later rows ordered i k exists from) exists)

          by_old : Done k ⊎ IsAmongOrBelow rows (i ∷ pending) k → New k ⊎ IsAmongOrBelow rows pending k
          by_old (inl done) = inl (kept k done)
          by_old (inr under) = by_from (apart rows i pending k under)

  -- a row that is known, with its children left to be looked at
  pub all_next : (Done New : ℕ → Type 0) (i : ℕ) (pending after : List ℕ) → CoversRows rows Done (i ∷ pending) → ((k : ℕ) → Done k → New k) → New i
      → ((k : ℕ) → IsAmong k pending → IsAmong k after) → ((k : ℕ) → k < length rows → IsChild rows k i → IsAmong k after) → CoversRows rows New after
  all_next Done New i pending after covers kept_done here_done kept children = record { each = each }
    where
      more : (k : ℕ) → IsAmongOrBelow rows pending k → IsAmongOrBelow rows after k
      more k (here _ is) = here k (kept k is)
      more k (below _ j child under) = below k j child (more j under)

      next : (k : ℕ) → k < length rows → From rows i k → (k ≡ i) ⊎ IsAmongOrBelow rows after k
      next k exists (self _ same) = inl same
      next k exists (down _ j child from) =
          let before = child_later rows ordered k j exists child in
          by_parent (next j (omega (arith, before, exists)) from)
        where
          by_parent : (j ≡ i) ⊎ IsAmongOrBelow rows after j → (k ≡ i) ⊎ IsAmongOrBelow rows after k
          by_parent (inl same) = inr (here k (children k exists (subst (IsChild rows k) same child)))
          by_parent (inr under) = inr (below k j child under)

      each : (k : ℕ) → k < length rows → New k ⊎ IsAmongOrBelow rows after k
      each k exists = by_old (covers.each k exists)
        where
          by_next : (k ≡ i) ⊎ IsAmongOrBelow rows after k → New k ⊎ IsAmongOrBelow rows after k
          by_next (inl same) = inl (subst New (sym same) here_done)
          by_next (inr under) = inr under

          by_from : IsAmongOrBelow rows pending k ⊎ From rows i k → New k ⊎ IsAmongOrBelow rows after k
          by_from (inl under) = inr (more k under)
          by_from (inr from) = by_next (next k exists from)

          by_old : Done k ⊎ IsAmongOrBelow rows (i ∷ pending) k → New k ⊎ IsAmongOrBelow rows after k
          by_old (inl done) = inl (kept_done k done)
          by_old (inr under) = by_from (apart rows i pending k under)

  none_under : (k : ℕ) → IsAmongOrBelow rows [] k → ⊥
  none_under k (here _ is) = is
  none_under k (below _ j child under) = none_under j under

  pub all_last : (Done : ℕ → Type 0) → CoversRows rows Done [] → (k : ℕ) → k < length rows → Done k
  all_last Done covers k exists = by_case (covers.each k exists)
    where
      by_case : Done k ⊎ IsAmongOrBelow rows [] k → Done k
      by_case (inl done) = done
      by_case (inr under) = absurd (none_under k under)
