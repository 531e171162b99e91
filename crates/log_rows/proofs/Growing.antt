-- What hangs behind one row more.
use Rattle.std.proofs.Common.{◌≡◌, ◌⊎◌, inl, inr, ℕ, zero, suc, ◌<◌, List, Option, Some, None, arith, refl, ap, subst, ◌∙◌}
use Rattle.std.proofs.lemmas.Bool.{cases_eq}
use Rattle.sopl_base.specs.declared.reason.Side.{Side}
use Rattle.sopl_base.specs.declared.reason.Side.TheVariants.{Le, Ge}
use Rattle.log_rows.specs.declared.rows.Row.{Row}
use Rattle.log_rows.specs.declared.rows.Parent.{Parent}
use Rattle.log_rows.specs.Rows.{row_at, IsSplit, Hangs}

-- the side of a node
abbrev pub side_of : ℕ → Side → Parent
side_of n side = record { node = n; side = side }

abbrev pub some_side : ℕ → Side → Option Parent
some_side n side = Some (side_of n side)

-- a parent that is a side of the new row, which is split
pub record IsNewSide (rows : List Row) (n : ℕ) (parent : Option Parent) : Type 0 where
  pub side : Side
  pub is : parent ≡ some_side n side
  pub split : IsSplit (row_at rows n).end

new_side : (rows : List Row) (n : ℕ) (parent : Parent) → parent.node ≡ n → IsSplit (row_at rows parent.node).end → IsNewSide rows n (Some parent)
new_side rows n parent same split = record {
  side = parent.side;
  is = ap (λ (k : ℕ). some_side k parent.side) same;
  split = subst (λ (k : ℕ). IsSplit (row_at rows k).end) same split;
}

-- what hangs behind a row hung before it, and is not what this row took, or is a side of it
pub hung : (rows : List Row) (n : ℕ) (parent : Option Parent) → Hangs rows (suc n) parent → (Hangs rows n parent × ¬ (row_at rows n).parent ≡ parent) ⊎ IsNewSide rows n parent
hung rows n None hangs = absurd (omega (arith, hangs))
hung rows n (Some parent) hangs =
    elim (cases_eq parent.node n) [
      | inl same ↦ inr (new_side rows n parent same hangs.split)
      | inr other ↦ inl (
        record {
          earlier = omega (arith, hangs.earlier, other);
          split = hangs.split;
          untaken = λ k before. hangs.untaken k (omega arith);
        },
        hangs.untaken n (omega arith),
      )
    ]

-- and the reverse: what hung before and was not taken
root_taken : (rows : List Row) (n : ℕ) (parent : Option Parent) → n ≡ 0 → Hangs rows n parent → parent ≡ None
root_taken rows n None first hangs = refl
root_taken rows n (Some parent) first hangs = absurd (omega (arith, hangs.earlier))

untaken_more : (rows : List Row) (n : ℕ) (parent : Parent) (k : ℕ) → k < suc n → ((j : ℕ) → j < n → ¬ (row_at rows j).parent ≡ Some parent) → ¬ (row_at rows n).parent ≡ Some parent
    → ¬ (row_at rows k).parent ≡ Some parent
untaken_more rows n parent k before untaken differs same =
    elim (cases_eq k n) [
      | inl last ↦ differs (subst (λ (j : ℕ). (row_at rows j).parent ≡ Some parent) last same)
      | inr other ↦ untaken k (omega (arith, other)) same
    ]

pub still_hangs : (rows : List Row) (n : ℕ) (parent : Option Parent) → Hangs rows n (row_at rows n).parent → Hangs rows n parent → ¬ (row_at rows n).parent ≡ parent → Hangs rows (suc n) parent
still_hangs rows n None row hangs differs = absurd (differs (root_taken rows n (row_at rows n).parent hangs row))
still_hangs rows n (Some parent) row hangs differs = record {
  earlier = omega (arith, hangs.earlier);
  split = hangs.split;
  untaken = λ k before. untaken_more rows n parent k before hangs.untaken differs;
}

-- a row's parent is an earlier one
parent_earlier : (rows : List Row) (k n : ℕ) (side : Side) (parent : Option Parent) → Hangs rows k parent → parent ≡ some_side n side → n < k
parent_earlier rows k n side parent hangs is =
    let there : Hangs rows k (some_side n side) = subst (λ (p : Option Parent). Hangs rows k p) is hangs in
    there.earlier

-- the sides of a new row that is split
pub side_hangs : (rows : List Row) (n : ℕ) (side : Side) → ((k : ℕ) → k < suc n → Hangs rows k (row_at rows k).parent) → IsSplit (row_at rows n).end → Hangs rows (suc n) (some_side n side)
side_hangs rows n side ordered split = record {
  earlier = omega arith;
  split = split;
  untaken = λ k before same. absurd (omega (arith, parent_earlier rows k n side (row_at rows k).parent (ordered k before) same));
}

-- whether a parent is taken can be told
pub same_side : (a b : Side) → (a ≡ b) ⊎ (¬ a ≡ b)
same_side Le Le = inl refl
same_side Le Ge = inr (λ same. absurd (cc))
same_side Ge Le = inr (λ same. absurd (cc))
same_side Ge Ge = inl refl

abbrev node_of : Option Parent → ℕ
node_of None = 0
node_of (Some parent) = parent.node

abbrev pub side_in : Option Parent → Side
side_in None = Le
side_in (Some parent) = parent.side

pub not_both_sides : ¬ Ge ≡ Le
not_both_sides same = absurd (cc)

same_parent : (p : Option Parent) (q : Parent) → (p ≡ Some q) ⊎ (¬ p ≡ Some q)
same_parent None q = inr (λ same. absurd (cc))
same_parent (Some p) q =
    elim (cases_eq p.node q.node) [
      | inl node ↦ elim (same_side p.side q.side) [
        | inl side ↦ inl (ap (λ (k : ℕ). some_side k p.side) node ∙ ap (λ (s : Side). some_side q.node s) side)
        | inr other ↦ inr (λ same. other (ap side_in same))
      ]
      | inr other ↦ inr (λ same. other (ap node_of same))
    ]

pub record IsTaken (rows : List Row) (n : ℕ) (parent : Parent) : Type 0 where
  pub row : ℕ
  pub before : row < n
  pub is : (row_at rows row).parent ≡ Some parent

taken_later : (rows : List Row) (n : ℕ) (parent : Parent) → IsTaken rows n parent → IsTaken rows (suc n) parent
taken_later rows n parent taken = record { row = taken.row; before = omega (arith, taken.before); is = taken.is }

pub taken_or_free : (rows : List Row) (n : ℕ) (parent : Parent) → IsTaken rows n parent ⊎ ((k : ℕ) → k < n → ¬ (row_at rows k).parent ≡ Some parent)
taken_or_free rows zero parent = inr (λ k before. absurd (omega arith))
taken_or_free rows (suc n) parent =
    elim (taken_or_free rows n parent) [
      | inl taken ↦ inl (taken_later rows n parent taken)
      | inr free ↦ elim (same_parent (row_at rows n).parent parent) [
        | inl same ↦ inl (record { row = n; before = omega arith; is = same })
        | inr differs ↦ inr (λ k before. untaken_more rows n parent k before free differs)
      ]
    ]
