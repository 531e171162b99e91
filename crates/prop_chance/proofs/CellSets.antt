-- Sets of cells, and what they have.
use Rattle.std.proofs.Common.{◌≡◌, ◌⊎◌, ℕ, ◌+◌, ◌<◌, ◌≤◌, List, [], ◌∷◌, length, get_or, drop, inl, inr, arith, refl, ap, sym, subst, ◌∙◌}
use Rattle.std.specs.List.{Contains}
use Rattle.std.proofs.lemmas.List.{at_drop_more, at_drop_all}
use Rattle.std.proofs.lemmas.List.Elements.{Contains-append_cases, Contains-append_left, Contains-append_right}
use Rattle.std.specs.BTreeSet.{insert_key}
use Rattle.std.specs.FinMap.{nat_cmp-IsAntisymmetric}
use Rattle.std.specs.Ordering.{nat_cmp, match_ordering}
use Rattle.std.specs.declared.cmp.Ordering.{Ordering}
use Rattle.std.specs.declared.cmp.Ordering.TheVariants.{Less, Equal, Greater}
use Rattle.sopl_base.proofs.Lists.{contains_one}
use Rattle.prop_shave.specs.Probes.{HasAll, HasOnly}
use Rattle.term_cells.specs.Cells.{with_cells}

-- one of several more, and none left
pub next_cell : (before after xs : List ℕ) (i d : ℕ) → i < length xs → after ≡ insert_key nat_cmp before (get_or xs i d) → with_cells after (drop (i + 1) xs) ≡ with_cells before (drop i xs)
next_cell before after xs i d below put =
    ap (λ (set : List ℕ). with_cells set (drop (i + 1) xs)) put ∙ sym (at_drop_more (λ ys. with_cells before ys) xs i d below)

pub no_cell_left : (set xs : List ℕ) (i : ℕ) → length xs ≤ i → with_cells set (drop i xs) ≡ set
no_cell_left set xs i past = at_drop_all (λ ys. with_cells set ys) xs i past

-- a set has a cell that is put in, and those that it had
put_itself : (ks : List ℕ) (x : ℕ) → Contains (insert_key nat_cmp ks x) x
put_itself [] x = (0, omega arith, refl)
put_itself (k ∷ ks) x = by_order (nat_cmp x k) refl (put_itself ks x)
  where
    by_order : (o : Ordering) → nat_cmp x k ≡ o → Contains (insert_key nat_cmp ks x) x → Contains (match_ordering o (x ∷ k ∷ ks) (k ∷ ks) (k ∷ insert_key nat_cmp ks x)) x
    by_order Less is rest = (0, omega arith, refl)
    by_order Equal is rest = (0, omega arith, sym (nat_cmp-IsAntisymmetric x k is))
    by_order Greater is rest = Contains-append_right (k ∷ []) (insert_key nat_cmp ks x) x rest

put_others : (ks : List ℕ) (x y : ℕ) → Contains ks y → Contains (insert_key nat_cmp ks x) y
put_others [] x y here = absurd (omega (arith, here.1))
put_others (k ∷ ks) x y here = by_order (nat_cmp x k) (put_others ks x y)
  where
    by_order : (o : Ordering) → (Contains ks y → Contains (insert_key nat_cmp ks x) y) → Contains (match_ordering o (x ∷ k ∷ ks) (k ∷ ks) (k ∷ insert_key nat_cmp ks x)) y
    by_order Less rest = Contains-append_right (x ∷ []) (k ∷ ks) y here
    by_order Equal rest = here
    by_order Greater rest =
        elim (Contains-append_cases (k ∷ []) ks y here) [
          | inl first ↦ Contains-append_left (k ∷ []) (insert_key nat_cmp ks x) y first
          | inr later ↦ Contains-append_right (k ∷ []) (insert_key nat_cmp ks x) y (rest later)
        ]

keeps : (cells set : List ℕ) → HasAll (with_cells set cells) set
keeps [] set = λ cell here. here
keeps (x ∷ cells) set = λ cell here. keeps cells (insert_key nat_cmp set x) cell (put_others set x cell here)

has : (cells set : List ℕ) → HasAll (with_cells set cells) cells
has [] set = λ cell here. absurd (omega (arith, here.1))
has (x ∷ cells) set = λ cell here.
    elim (Contains-append_cases (x ∷ []) cells cell here) [
      | inl first ↦
          keeps cells (insert_key nat_cmp set x) cell (subst (Contains (insert_key nat_cmp set x)) (contains_one x cell first) (put_itself set x))
      | inr later ↦ has cells (insert_key nat_cmp set x) cell later
    ]

pub has_old : (old new cells : List ℕ) → new ≡ with_cells old cells → HasAll new old
has_old old new cells is = subst (λ (set : List ℕ). HasAll set old) (sym is) (keeps cells old)

pub has_new : (old new cells : List ℕ) → new ≡ with_cells old cells → HasAll new cells
has_new old new cells is = subst (λ (set : List ℕ). HasAll set cells) (sym is) (has cells old)

pub has_itself : (set : List ℕ) → HasAll set set
has_itself set = λ cell here. here

-- and no others
put_only : (ks : List ℕ) (x y : ℕ) → Contains (insert_key nat_cmp ks x) y → (y ≡ x) ⊎ Contains ks y
put_only [] x y here = inl (sym (contains_one x y here))
put_only (k ∷ ks) x y here = by_order (nat_cmp x k) (put_only ks x y) here
  where
    by_order : (o : Ordering) → (Contains (insert_key nat_cmp ks x) y → (y ≡ x) ⊎ Contains ks y)
        → Contains (match_ordering o (x ∷ k ∷ ks) (k ∷ ks) (k ∷ insert_key nat_cmp ks x)) y → (y ≡ x) ⊎ Contains (k ∷ ks) y
    by_order Less rest here =
        elim (Contains-append_cases (x ∷ []) (k ∷ ks) y here) [
          | inl first ↦ inl (sym (contains_one x y first))
          | inr later ↦ inr later
        ]
    by_order Equal rest here = inr here
    by_order Greater rest here =
        elim (Contains-append_cases (k ∷ []) (insert_key nat_cmp ks x) y here) [
          | inl first ↦ inr (Contains-append_left (k ∷ []) ks y first)
          | inr later ↦ elim (rest later) [
            | inl same ↦ inl same
            | inr old ↦ inr (Contains-append_right (k ∷ []) ks y old)
          ]
        ]

only_those : (cells set : List ℕ) → HasOnly (with_cells set cells) set cells
only_those [] set = λ cell here. inl here
only_those (x ∷ cells) set = λ cell here.
    elim (only_those cells (insert_key nat_cmp set x) cell here) [
      | inl put ↦ elim (put_only set x cell put) [
        | inl same ↦ inr (Contains-append_left (x ∷ []) cells cell (0, omega arith, sym same))
        | inr old ↦ inl old
      ]
      | inr later ↦ inr (Contains-append_right (x ∷ []) cells cell later)
    ]

pub has_only : (old new cells : List ℕ) → new ≡ with_cells old cells → HasOnly new old cells
has_only old new cells is = subst (λ (set : List ℕ). HasOnly set old cells) (sym is) (only_those cells old)

-- cells of a list are put to others of it, or to those of a first set
pub within_more : (old new more mentioned : List ℕ) → HasAll mentioned old → HasOnly new old more → HasAll mentioned more → HasAll mentioned new
within_more old new more mentioned before only within = λ cell here.
    elim (only cell here) [
      | inl earlier ↦ before cell earlier
      | inr now ↦ within cell now
    ]

pub only_more : (first old new more mentioned : List ℕ) → HasOnly old first mentioned → HasOnly new old more → HasAll mentioned more → HasOnly new first mentioned
only_more first old new more mentioned before only within = λ cell here.
    elim (only cell here) [
      | inl earlier ↦ before cell earlier
      | inr now ↦ inr (within cell now)
    ]
