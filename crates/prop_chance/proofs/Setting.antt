-- What holds of each item of a list that is set item by item.
use Rattle.std.proofs.Common.{inl, inr, ℕ, ◌+◌, ◌<◌, List, length, get_or, set, length-set, arith, sym, subst}
use Rattle.std.proofs.lemmas.Bool.{cases_eq, cases_lt}
use Rattle.std.proofs.lemmas.Grind.{get_or-set_at}
use Rattle.std.proofs.lemmas.List.{get_or-set_other, get_or_past}

-- of one item more, and of all
pub holds_more : {A : Type 0} (P : A → Type 0) (xs : List A) (at : ℕ) (d x : A) → P x → P d → ((k : ℕ) → k < at → P (get_or xs k d)) → (k : ℕ) → k < at + 1 → P (get_or (set xs at x) k d)
holds_more P xs at d x here past before k below =
    elim (cases_eq k at) [
      | inl same ↦ elim (cases_lt k (length xs)) [
        | inl there ↦ subst P (sym (get_or-set_at xs at k x d same (omega (arith, there, same)))) here
        | inr end ↦ subst P (sym (get_or_past (set xs at x) k d (let long = length-set xs at x in omega (arith, end, long)))) past
      ]
      | inr other ↦ subst P (sym (get_or-set_other xs at k x d other)) (before k (omega (arith, below, other)))
    ]

pub holds_all : {A : Type 0} (P : A → Type 0) (xs : List A) (d : A) → P d → ((k : ℕ) → k < length xs → P (get_or xs k d)) → (k : ℕ) → P (get_or xs k d)
holds_all P xs d past each k =
    elim (cases_lt k (length xs)) [
      | inl below ↦ each k below
      | inr end ↦ subst P (sym (get_or_past xs k d end)) past
    ]
