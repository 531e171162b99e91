-- Which cells have changed.
use Rattle.std.proofs.Common.{◌≡◌, ◌∙◌, inl, inr, ℕ, ◌+◌, ◌<◌, ◌≤◌, List, [], ◌∷◌, ◌++◌, length, get_or, set, take, length-set, refl, sym, ap, subst, arith}
use Rattle.std.specs.List.{Contains}
use Rattle.std.proofs.lemmas.Bool.{cases_eq}
use Rattle.std.proofs.lemmas.List.{get_or-set_other, get_or-set_same, take_all, take_more}
use Rattle.std.proofs.lemmas.List.Elements.{Contains-append_cases, Contains-append_left, Contains-append_right}
use Rattle.sopl_base.proofs.Lists.{contains_one}
use Rattle.log_rows.proofs.Lists.{none_has}
use Rattle.log_check.specs.declared.changes.Changes.{Changes}
use Rattle.log_check.specs.KeptSums.{AreChanged, AreUnchanged}

-- one cell, which may not exist
pub none_changed : (cell : ℕ) (old : Changes) → length old.last.items ≤ cell → AreChanged (cell ∷ []) old old
none_changed cell old past = record {
  time = refl;
  count = refl;
  here = λ n told below. let is = contains_one cell n told in absurd (omega (arith, is, below, past));
  others = λ n other. refl;
}

pub one_changed : (cell : ℕ) (old new : Changes) → cell < length old.last.items → new.time ≡ old.time → new.last.items ≡ set old.last.items cell old.time → AreChanged (cell ∷ []) old new
one_changed cell old new there same put = record {
  time = same;
  count = ap length put ∙ length-set old.last.items cell old.time;
  here = λ n told below.
      subst (λ (k : ℕ). get_or new.last.items k 0 ≡ old.time) (contains_one cell n told)
      (ap (λ (xs : List ℕ). get_or xs cell 0) put ∙ get_or-set_same old.last.items cell old.time 0 there);
  others = λ n other.
      ap (λ (xs : List ℕ). get_or xs n 0) put ∙ get_or-set_other old.last.items cell n old.time 0 (λ is. other (0, omega arith, sym is));
}

-- several cells, one after the other
pub changed_none : (old : Changes) → AreChanged [] old old
changed_none old = record { time = refl; count = refl; here = λ n told below. absurd (none_has n told); others = λ n other. refl }

one_more : (xs : List ℕ) (x : ℕ) (old mid new : Changes) → AreChanged xs old mid → AreChanged (x ∷ []) mid new → AreChanged (xs ++ x ∷ []) old new
one_more xs x old mid new first second = record {
  time = second.time ∙ first.time;
  count = second.count ∙ first.count;
  here = λ n told below.
      elim (cases_eq n x) [
        | inl is ↦ second.here n (0, omega arith, sym is) (omega (arith, below, first.count)) ∙ first.time
        | inr other ↦ second.others n (λ has. other (sym (contains_one x n has))) ∙ first.here n (earlier n told other) below
      ];
  others = λ n other.
      second.others n (λ has. other (Contains-append_right xs (x ∷ []) n has)) ∙ first.others n (λ has. other (Contains-append_left xs (x ∷ []) n has));
}
  where
    earlier : (n : ℕ) → Contains (xs ++ x ∷ []) n → ¬ n ≡ x → Contains xs n
    earlier n told other =
        elim (Contains-append_cases xs (x ∷ []) n told) [
          | inl has ↦ has
          | inr last ↦ absurd (other (sym (contains_one x n last)))
        ]

pub changed_more : (cells : List ℕ) (i : ℕ) (old mid new : Changes) → i < length cells → AreChanged (take i cells) old mid → AreChanged (get_or cells i 0 ∷ []) mid new
    → AreChanged (take (i + 1) cells) old new
changed_more cells i old mid new below first second =
    subst (λ (list : List ℕ). AreChanged list old new) (sym (take_more cells i 0 below)) (one_more (take i cells) (get_or cells i 0) old mid new first second)

pub changed_all : (cells : List ℕ) (i : ℕ) (old new : Changes) → length cells ≤ i → AreChanged (take i cells) old new → AreChanged cells old new
changed_all cells i old new past changed = subst (λ (list : List ℕ). AreChanged list old new) (take_all i cells past) changed

-- what is unchanged has none of the cells that have changed, and was unchanged before
pub changed_apart : (cells those : List ℕ) (time : ℕ) (old new : Changes) → AreChanged cells old new → ((cell : ℕ) → Contains cells cell → cell < length old.last.items) → time ≤ old.time
    → AreUnchanged new time those → AreUnchanged old time those × ((cell : ℕ) → Contains cells cell → ¬ Contains those cell)
changed_apart cells those time old new changed exist before unchanged = (was, none)
  where
    none : (cell : ℕ) → Contains cells cell → ¬ Contains those cell
    none cell told has =
        let less = unchanged cell has in
        let now = changed.here cell told (exist cell told) in
        omega (arith, less, now, before)

    was : (cell : ℕ) → Contains those cell → get_or old.last.items cell 0 < time
    was cell has =
        let less = unchanged cell has in
        let same = changed.others cell (λ told. none cell told has) in
        omega (arith, less, same)

-- cells that have not changed
pub unchanged_none : (changes : Changes) (time : ℕ) → AreUnchanged changes time []
unchanged_none changes time = λ n has. absurd (none_has n has)

pub unchanged_more : (changes : Changes) (time : ℕ) (cells : List ℕ) (i : ℕ) → i < length cells → AreUnchanged changes time (take i cells)
    → get_or changes.last.items (get_or cells i 0) 0 < time → AreUnchanged changes time (take (i + 1) cells)
unchanged_more changes time cells i below before here = λ n has.
    elim (Contains-append_cases (take i cells) (get_or cells i 0 ∷ []) n (subst (λ (list : List ℕ). Contains list n) (take_more cells i 0 below) has)) [
      | inl earlier ↦ before n earlier
      | inr last ↦ subst (λ (k : ℕ). get_or changes.last.items k 0 < time) (contains_one (get_or cells i 0) n last) here
    ]

pub unchanged_all : (changes : Changes) (time : ℕ) (cells : List ℕ) (i : ℕ) → length cells ≤ i → AreUnchanged changes time (take i cells) → AreUnchanged changes time cells
unchanged_all changes time cells i past before = subst (AreUnchanged changes time) (take_all i cells past) before
