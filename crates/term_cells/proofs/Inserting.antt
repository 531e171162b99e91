-- What a set has when cells were put in.
use Rattle.std.proofs.Common.{◌≡◌, ◌↔◌, ℕ, eqb, Bool, true, false, ◌||◌, T, List, [], ◌∷◌, ◌++◌, Contains, append-nil, refl, sym, ap, subst, ◌∙◌}
use Rattle.std.proofs.lemmas.List.Sums.{fold-append}
use Rattle.std.proofs.lemmas.Map.Keys.{IsStrictlyIncreasing-from_sorted}
use Rattle.std.proofs.lemmas.Map.Views.{Contains-from_any, list_any-from_Contains, exact_unsigned_eq}
use Rattle.std.specs.Cmp.{nat_eq_equiv}
use Rattle.std.specs.BTreeSet.{insert_key}
use Rattle.std.specs.FinMap.{nat_cmp-IsAntisymmetric}
use Rattle.std.specs.List.{list_any}
use Rattle.std.specs.List.Sorted.{IsStrictlySortedBy, IsStrictlyIncreasing}
use Rattle.std.specs.Ordering.{nat_cmp, match_ordering}
use Rattle.std.specs.declared.cmp.Ordering.{Ordering}
use Rattle.std.specs.declared.cmp.Ordering.TheVariants.{Less, Equal, Greater}
use Rattle.term_cells.specs.Cells.{with_cells}

pub two_lists : (set middle last first second : List ℕ) → middle ≡ with_cells set first → last ≡ with_cells middle second → last ≡ with_cells set (first ++ second)
two_lists set middle last first second one two =
    two ∙ ap (λ (s : List ℕ). with_cells s second) one ∙ sym (fold-append (insert_key nat_cmp) set first second)

-- one cell more
one_more : (o : Ordering) (q x k : ℕ) (ks rest : List ℕ) → nat_cmp x k ≡ o → list_any (eqb q) rest ≡ (eqb q x || list_any (eqb q) ks)
    → list_any (eqb q) (match_ordering o (x ∷ k ∷ ks) (k ∷ ks) (k ∷ rest)) ≡ (eqb q x || (eqb q k || list_any (eqb q) ks))
one_more Less q x k ks rest is more = refl
one_more Equal q x k ks rest is more = twice (eqb q k) (eqb q x) (list_any (eqb q) ks) (ap (eqb q) (sym (nat_cmp-IsAntisymmetric x k is)))
  where
    twice : (a b c : Bool) → a ≡ b → (a || c) ≡ (b || (a || c))
    twice true true c same = refl
    twice true false c same = refl
    twice false true c same = absurd (subst T (sym same) tt)
    twice false false c same = refl
one_more Greater q x k ks rest is more = ap (λ r. eqb q k || r) more ∙ turned (eqb q k) (eqb q x) (list_any (eqb q) ks)
  where
    turned : (a b c : Bool) → (a || (b || c)) ≡ (b || (a || c))
    turned true true c = refl
    turned true false c = refl
    turned false b c = refl

put_any : (q x : ℕ) (ks : List ℕ) → list_any (eqb q) (insert_key nat_cmp ks x) ≡ (eqb q x || list_any (eqb q) ks)
put_any q x [] = refl
put_any q x (k ∷ ks) = one_more (nat_cmp x k) q x k ks (insert_key nat_cmp ks x) refl (put_any q x ks)

-- and all cells of a list
with_any : (q : ℕ) (set cells : List ℕ) → list_any (eqb q) (with_cells set cells) ≡ (list_any (eqb q) cells || list_any (eqb q) set)
with_any q set [] = refl
with_any q set (x ∷ cells) =
    with_any q (insert_key nat_cmp set x) cells ∙ ap (λ b. list_any (eqb q) cells || b) (put_any q x set) ∙ turned (list_any (eqb q) cells) (eqb q x) (list_any (eqb q) set)
  where
    turned : (a b c : Bool) → (a || (b || c)) ≡ ((b || a) || c)
    turned true true c = refl
    turned true false c = refl
    turned false true c = refl
    turned false false c = refl

or_false : (a : Bool) → (a || false) ≡ a
or_false true = refl
or_false false = refl

alone_any : (q : ℕ) (cells : List ℕ) → list_any (eqb q) (with_cells [] cells) ≡ list_any (eqb q) cells
alone_any q cells = with_any q [] cells ∙ or_false (list_any (eqb q) cells)

-- a set that was empty has the cells of the list, and no other
pub mentioned_alone : (start set cells list : List ℕ) → start ≡ [] → set ≡ with_cells start cells → list ≡ set → (cell : ℕ) → Contains list cell ↔ Contains cells cell
mentioned_alone start set cells list empty put is = λ cell.
    let same = ap (list_any (eqb cell)) (is ∙ put ∙ ap (λ (s : List ℕ). with_cells s cells) empty) ∙ alone_any cell cells in (
      λ there. Contains-from_any exact_unsigned_eq cell cells (sym same ∙ list_any-from_Contains nat_eq_equiv cell list there),
      λ there. Contains-from_any exact_unsigned_eq cell list (same ∙ list_any-from_Contains nat_eq_equiv cell cells there),
    )

-- all of a list, where nothing is left
pub all_listed : (done left all : List ℕ) → done ++ left ≡ all → left ≡ [] → done ≡ all
all_listed done left all whole none = sym (append-nil done) ∙ ap (λ (xs : List ℕ). done ++ xs) (sym none) ∙ whole

-- the keys of a set ascend
pub ascending : (list set : List ℕ) → list ≡ set → IsStrictlySortedBy nat_cmp set → IsStrictlyIncreasing list
ascending list set is sorted = subst IsStrictlyIncreasing (sym is) (IsStrictlyIncreasing-from_sorted set sorted)
