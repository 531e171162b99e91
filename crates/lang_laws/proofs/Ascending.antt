-- The numbers of ranges and sets ascend.
use Rattle.std.proofs.Common.{◌≡◌, ℕ, zero, suc, ℤ, pos, ◌+ℤ◌, ◌<ℤ◌, List, [], ◌∷◌, map, arith}
use Rattle.std.proofs.lemmas.Int.{ints}
use Rattle.std.specs.BTreeSet.{insert_key}
use Rattle.std.specs.Cmp.{int_ranks}
use Rattle.std.specs.List.{fold}
use Rattle.std.specs.Ordering.{int_cmp, match_ordering, MatchOrdering}
use Rattle.std.specs.declared.cmp.Ordering.{Ordering}
use Rattle.std.specs.declared.cmp.Ordering.TheVariants.{Less, Equal, Greater}
use Rattle.sopl_ast.specs.Lists.{trees_list}
use Rattle.sopl_ast.specs.Numbers.{counted_up, count_between}
use Rattle.sopl_ast.specs.Constants.{value_or_zero}
use Rattle.lang_laws.specs.Laws.{Ascends, RangesAscend, SetsAscend}

-- a number is less than the next
less_than_next : (z : ℤ) → z <ℤ (z +ℤ pos 1)
less_than_next z = omega (arith, ints)

counted_ascends : (z : ℤ) (n : ℕ) → Ascends (counted_up z n)
counted_ascends z zero = tt
counted_ascends z (suc zero) = tt
counted_ascends z (suc (suc n)) = (less_than_next z, counted_ascends (z +ℤ pos 1) (suc n))

pub ranges_ascend : RangesAscend
ranges_ascend lo hi = counted_ascends lo (count_between lo hi)

-- a number that is put in its place, behind a lesser one
inserted_behind : (b k : ℤ) (xs : List ℤ) → b <ℤ k → Ascends (b ∷ xs) → Ascends (b ∷ insert_key int_cmp xs k)
inserted_behind b k [] less up = (less, tt)
inserted_behind b k (x ∷ xs) less up = placed (int_cmp k x) (int_ranks k x) (λ is. inserted_behind x k xs is up.1)
  where
    placed : (o : Ordering) → MatchOrdering o (k <ℤ x) (k ≡ x) (x <ℤ k) → (x <ℤ k → Ascends (x ∷ insert_key int_cmp xs k))
        → Ascends (b ∷ match_ordering o (k ∷ x ∷ xs) (x ∷ xs) (x ∷ insert_key int_cmp xs k))
    placed Less is behind = (less, (is, up.1))
    placed Equal is behind = up
    placed Greater is behind = (up.0, behind is)

-- a number that is put in its place
inserted : (k : ℤ) (xs : List ℤ) → Ascends xs → Ascends (insert_key int_cmp xs k)
inserted k [] up = tt
inserted k (x ∷ xs) up = put_first (int_cmp k x) (int_ranks k x)
  where
    put_first : (o : Ordering) → MatchOrdering o (k <ℤ x) (k ≡ x) (x <ℤ k)
        → Ascends (match_ordering o (k ∷ x ∷ xs) (x ∷ xs) (x ∷ insert_key int_cmp xs k))
    put_first Less is = (is, up)
    put_first Equal is = up
    put_first Greater is = inserted_behind x k xs is up

pub all_inserted : (ks xs : List ℤ) → Ascends xs → Ascends (fold (insert_key int_cmp) xs ks)
all_inserted [] xs up = up
all_inserted (k ∷ ks) xs up = all_inserted ks (insert_key int_cmp xs k) (inserted k xs up)

pub sets_ascend : SetsAscend
sets_ascend known elements = all_inserted (map (value_or_zero known) (trees_list elements)) [] tt
