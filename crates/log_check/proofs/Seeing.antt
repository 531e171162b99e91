-- A sum that is kept.
use Rattle.std.proofs.Common.{◌≡◌, ◌∙◌, inl, inr, ℕ, ◌+◌, ◌<◌, ◌≤◌, ℤ, pos, Bool, true, false, List, [], length, get_or, map, length-set, refl, sym, ap, subst, arith}
use Rattle.std.specs.List.{Contains}
use Rattle.std.proofs.lemmas.Bool.{cases_eq}
use Rattle.std.proofs.lemmas.Int.{ints}
use Rattle.std.proofs.lemmas.List.{get_or-map, get_or_default, get_or-set_other, get_or-set_same}
use Rattle.sopl_base.specs.declared.wide.Wide.{Wide}
use Rattle.term_problem.specs.Search.{numbers_to}
use Rattle.prop_shave.specs.Sums.{sum_over}
use Rattle.prop_chance.specs.KeptWeights.{IfSo}
use Rattle.prop_chance.proofs.KeptWeights.{one_turned, same_to, sum_none}
use Rattle.log_check.specs.declared.changes.Changes.{Changes}
use Rattle.log_check.specs.declared.seen_sum.CellList.{CellList}
use Rattle.log_check.specs.declared.seen_sum.SeenSum.{SeenSum}
use Rattle.log_check.specs.KeptSums.{IsOfParts, AreUnchanged, IsCurrent, IsLater, IsPartSet, IsSumKept, KeepsSum, cells_of_part, part_kept}

abbrev zero_part : Wide
zero_part = record { value = pos 0 }

-- the cells of a part at its place
pub cells_there : (k : SeenSum) (part : ℕ) (d : CellList) → part < length k.lists.items → (get_or k.lists.items part d).cells.items ≡ cells_of_part k part
cells_there k part d exists = sym (get_or-map (λ (list : CellList). list.cells.items) k.lists.items part d [] exists)

pub part_there : (k : SeenSum) (part : ℕ) (d : Wide) → part < length k.parts.items → (get_or k.parts.items part d).value ≡ part_kept k part
part_there k part d exists = ap (λ (w : Wide). w.value) (get_or_default k.parts.items part d zero_part exists)

same_cells : (old new : SeenSum) (part : ℕ) → new.lists ≡ old.lists → cells_of_part new part ≡ cells_of_part old part
same_cells old new part lists = ap (λ xs. get_or (map (λ (list : CellList). list.cells.items) xs.items) part []) lists

pub listed_alike : (mention : ℕ → List ℕ) (count : ℕ) (old new : SeenSum) → new.lists ≡ old.lists → length new.parts.items ≡ length old.parts.items → IsOfParts mention count old
    → IsOfParts mention count new
listed_alike mention count old new lists parts listed = record {
  lists = ap (λ xs. length xs.items) lists ∙ listed.lists;
  parts = parts ∙ listed.parts;
  all = λ part cell below has. subst (λ (cells : List ℕ). Contains cells cell) (sym (same_cells old new part lists)) (listed.all part cell below has);
}

current_alike : (changes : Changes) (old new : SeenSum) (part : ℕ) → new.lists ≡ old.lists → new.seen ≡ old.seen → IsCurrent changes new part → IsCurrent changes old part
current_alike changes old new part lists seen current = record {
  seen = subst (λ (t : ℕ). 0 < t) seen current.seen;
  unchanged = subst (AreUnchanged changes old.seen) (same_cells old new part lists) (subst (λ (t : ℕ). AreUnchanged changes t (cells_of_part new part)) seen current.unchanged);
}

-- one part is set
pub set_here : (old new : SeenSum) (at : ℕ) (part : Wide) → at < length old.parts.items → IsPartSet old new at part → part_kept new at ≡ part.value
set_here old new at part exists put =
    ap (λ (xs : List Wide). (get_or xs at zero_part).value) put.parts ∙ ap (λ (w : Wide). w.value) (get_or-set_same old.parts.items at part zero_part exists)

pub set_others : (old new : SeenSum) (at : ℕ) (part : Wide) → IsPartSet old new at part → (k : ℕ) → ¬ k ≡ at → part_kept new k ≡ part_kept old k
set_others old new at part put k other =
    ap (λ (xs : List Wide). (get_or xs k zero_part).value) put.parts ∙ ap (λ (w : Wide). w.value) (get_or-set_other old.parts.items at k part zero_part other)

pub kept_set : (changes : Changes) (mention : ℕ → List ℕ) (count : ℕ) (value : ℕ → ℤ) (old new : SeenSum) (at : ℕ) (part : Wide) → at < count → part.value ≡ value at → IsPartSet old new at part
    → IsSumKept changes mention count value old → IsSumKept changes mention count value new
kept_set changes mention count value old new at part below is put kept =
    let here = set_here old new at part (omega (arith, below, kept.listed.parts)) put in
    let whole = one_turned (part_kept old) (part_kept new) at 0 count (omega arith) (omega (arith, below)) (set_others old new at part put) in
    record {
      listed = listed_alike mention count old new put.lists (ap length put.parts ∙ length-set old.parts.items at part) kept.listed;
      before = omega (arith, kept.before, put.seen);
      summed = omega (arith, ints, whole, here, put.sum, kept.summed);
      each = λ k within current. elim (cases_eq k at) [
        | inl same ↦ ap (part_kept new) same ∙ here ∙ is ∙ sym (ap value same)
        | inr other ↦ set_others old new at part put k other ∙ kept.each k within (current_alike changes old new k put.lists put.seen current)
      ];
    }

pub kept_either : (changes : Changes) (mention : ℕ → List ℕ) (count : ℕ) (value : ℕ → ℤ) (old new : SeenSum) (at : ℕ) (part : Wide) (result : Bool) → at < count → part.value ≡ value at
    → IfSo result (IsPartSet old new at part) → (result ≡ false → new ≡ old) → IsSumKept changes mention count value old → IsSumKept changes mention count value new
kept_either changes mention count value old new at part true below is put unset kept = kept_set changes mention count value old new at part below is put kept
kept_either changes mention count value old new at part false below is put unset kept = subst (IsSumKept changes mention count value) (sym (unset refl)) kept

-- nothing was seen
pub unseen : (changes : Changes) (mention : ℕ → List ℕ) (count : ℕ) (value : ℕ → ℤ) (k : SeenSum) → k.seen ≡ 0 → KeepsSum changes mention count value k
unseen changes mention count value k none some = absurd (omega (arith, none, some))

pub cleared_kept : (changes : Changes) (mention : ℕ → List ℕ) (count : ℕ) (value : ℕ → ℤ) (old k : SeenSum) → IsOfParts mention count old → k.lists ≡ old.lists
    → length k.parts.items ≡ length old.parts.items → k.seen ≡ old.seen → old.seen ≤ 0 → ((part : ℕ) → part_kept k part ≡ pos 0) → k.sum.value ≡ pos 0
    → IsSumKept changes mention count value k
cleared_kept changes mention count value old k listed lists parts seen none zeros sum = record {
  listed = listed_alike mention count old k lists parts listed;
  before = omega (arith, seen, none);
  summed = sum ∙ sym (sum_none (part_kept k) count zeros);
  each = λ part below current. let some = current.seen in absurd (omega (arith, some, seen, none));
}

-- all parts are seen
pub sum_is : (changes : Changes) (mention : ℕ → List ℕ) (count : ℕ) (value : ℕ → ℤ) (k : SeenSum) → IsSumKept changes mention count value k
    → ((part : ℕ) → part < count → part_kept k part ≡ value part) → k.sum.value ≡ sum_over value (numbers_to count)
sum_is changes mention count value k kept all = kept.summed ∙ same_to (part_kept k) value count all

pub seen_now : (changes later : Changes) (mention : ℕ → List ℕ) (count : ℕ) (value : ℕ → ℤ) (old new : SeenSum) → new.lists ≡ old.lists → new.parts ≡ old.parts → new.sum ≡ old.sum
    → new.seen ≡ later.time → IsSumKept changes mention count value old → ((part : ℕ) → part < count → part_kept old part ≡ value part)
    → IsSumKept later mention count value new
seen_now changes later mention count value old new lists parts sum seen kept all = record {
  listed = listed_alike mention count old new lists (ap (λ xs. length xs.items) parts) kept.listed;
  before = omega (arith, seen);
  summed = ap (λ (w : Wide). w.value) sum ∙ kept.summed
      ∙ sym (ap (λ xs. sum_over (λ k. (get_or xs.items k zero_part).value) (numbers_to count)) parts);
  each = λ part below current. ap (λ xs. (get_or xs.items part zero_part).value) parts ∙ all part below;
}

-- time goes on
pub kept_later : (old new : Changes) (mention : ℕ → List ℕ) (count : ℕ) (value : ℕ → ℤ) (k : SeenSum) → IsLater old new → KeepsSum old mention count value k → KeepsSum new mention count value k
kept_later old new mention count value k later keeps some =
    let is = keeps some in
    record {
      listed = is.listed;
      before = omega (arith, is.before, later.time);
      summed = is.summed;
      each = λ part below current.
          is.each part below
          (record { seen = current.seen; unchanged = λ cell has. subst (λ xs. get_or xs.items cell 0 < k.seen) later.last (current.unchanged cell has) });
    }

-- the cells of one part more
pub listed_more : (mention : ℕ → List ℕ) (k : SeenSum) (at : ℕ) (cells : List ℕ) → cells_of_part k at ≡ cells → ((cell : ℕ) → Contains (mention at) cell → Contains cells cell)
    → ((part cell : ℕ) → part < at → Contains (mention part) cell → Contains (cells_of_part k part) cell) → (part cell : ℕ) → part < at + 1 → Contains (mention part) cell
    → Contains (cells_of_part k part) cell
listed_more mention k at cells is all before part cell below has =
    elim (cases_eq part at) [
      | inl same ↦ subst (λ (p : ℕ). Contains (cells_of_part k p) cell) (sym same)
          (subst (λ (list : List ℕ). Contains list cell) (sym is) (all cell (subst (λ (p : ℕ). Contains (mention p) cell) same has)))
      | inr other ↦ before part cell (omega (arith, below, other)) has
    ]

-- one part more is seen
pub seen_more : (value : ℕ → ℤ) (old new : SeenSum) (at : ℕ) → part_kept new at ≡ value at → ((part : ℕ) → ¬ part ≡ at → part_kept new part ≡ part_kept old part)
    → ((part : ℕ) → part < at → part_kept old part ≡ value part) → (part : ℕ) → part < at + 1 → part_kept new part ≡ value part
seen_more value old new at here others before part below =
    elim (cases_eq part at) [
      | inl same ↦ ap (part_kept new) same ∙ here ∙ sym (ap value same)
      | inr other ↦ others part other ∙ before part (omega (arith, below, other))
    ]
