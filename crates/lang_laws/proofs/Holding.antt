-- Which numbers ranges and sets have.
use Rattle.std.proofs.Common.{◌≡◌, sym, ◌∙◌, ℕ, zero, suc, ℤ, pos, negsuc, ◌+ℤ◌, ◌≤ℤ◌, ◌<ℤ◌, List, [], ◌∷◌, map, ◌⊎◌, inl, inr, Contains, arith}
use Rattle.std.proofs.lemmas.Int.{ints}
use Rattle.std.specs.BTreeSet.{insert_key}
use Rattle.std.specs.Cmp.{int_ranks}
use Rattle.std.specs.Int.{int_gap}
use Rattle.std.specs.List.{fold}
use Rattle.std.specs.Ordering.{int_cmp, match_ordering, MatchOrdering}
use Rattle.std.specs.declared.cmp.Ordering.{Ordering}
use Rattle.std.specs.declared.cmp.Ordering.TheVariants.{Less, Equal, Greater}
use Rattle.sopl_ast.specs.Lists.{trees_list}
use Rattle.sopl_ast.specs.Numbers.{counted_up, count_between, up_to}
use Rattle.sopl_ast.specs.Constants.{value_or_zero}
use Rattle.sopl_ast.specs.Declarations.{set_of}
use Rattle.lang_laws.specs.Laws.{RangesHold, SetsHold}

-- x is an element of the list
abbrev In : ℤ → List ℤ → Type 0
In x [] = ⊥
In x (y ∷ ys) = (y ≡ x) ⊎ In x ys

In-Contains : (xs : List ℤ) (x : ℤ) → Contains xs x → In x xs
In-Contains [] x (k, within, is) = absurd (omega arith)
In-Contains (y ∷ ys) x (zero, within, is) = inl is
In-Contains (y ∷ ys) x (suc k, within, is) = inr (In-Contains ys x (k, omega arith, is))

Contains-In : (xs : List ℤ) (x : ℤ) → In x xs → Contains xs x
Contains-In [] x h = absurd h
Contains-In (y ∷ ys) x (inl e) = (zero, omega arith, e)
Contains-In (y ∷ ys) x (inr h) = let r : Contains ys x = Contains-In ys x h in (suc r.0, omega arith, r.2)

-- Ranges.

-- numbers that are counted up lie from the first on and before the end
from_counted : (z : ℤ) (n : ℕ) (x : ℤ) → In x (counted_up z n) → (z ≤ℤ x) × (x <ℤ (z +ℤ pos n))
from_counted z zero x h = absurd h
from_counted z (suc n) x (inl is) = (omega (arith, ints, is), omega (arith, ints, is))
from_counted z (suc n) x (inr h) =
    let r : ((z +ℤ pos 1) ≤ℤ x) × (x <ℤ ((z +ℤ pos 1) +ℤ pos n)) = from_counted (z +ℤ pos 1) n x h in
    (omega (arith, ints, r.0), omega (arith, ints, r.1))

to_counted : (z : ℤ) (n : ℕ) (x : ℤ) → z ≤ℤ x → x <ℤ (z +ℤ pos n) → In x (counted_up z n)
to_counted z zero x least before = absurd (omega (arith, ints))
to_counted z (suc n) x least before = by_first (int_cmp z x) (int_ranks z x) (to_counted (z +ℤ pos 1) n x)
  where
    by_first : (o : Ordering) → MatchOrdering o (z <ℤ x) (z ≡ x) (x <ℤ z)
        → ((z +ℤ pos 1) ≤ℤ x → x <ℤ ((z +ℤ pos 1) +ℤ pos n) → In x (counted_up (z +ℤ pos 1) n)) → In x (counted_up z (suc n))
    by_first Less is later = inr (later (omega (arith, ints)) (omega (arith, ints)))
    by_first Equal is later = inl is
    by_first Greater is later = absurd (omega (arith, ints))

-- the end of the numbers from one to another, where there is one
end_is : (lo hi : ℤ) → lo ≤ℤ (hi +ℤ pos 1) → lo +ℤ pos (int_gap lo (hi +ℤ pos 1)) ≡ hi +ℤ pos 1
end_is lo hi least = gap lo (hi +ℤ pos 1) least
  where
    gap : (a b : ℤ) → a ≤ℤ b → a +ℤ pos (int_gap a b) ≡ b
    gap (pos a) (pos b) order = omega (arith, ints)
    gap (pos a) (negsuc b) order = omega (arith, ints)
    gap (negsuc a) (pos b) order = omega (arith, ints)
    gap (negsuc a) (negsuc b) order = omega (arith, ints)

-- there is no number before an end that comes before the first
no_gap : (a b : ℤ) → b <ℤ a → int_gap a b ≡ 0
no_gap (pos a) (pos b) order = omega (arith, ints)
no_gap (pos a) (negsuc b) order = omega (arith, ints)
no_gap (negsuc a) (pos b) order = omega (arith, ints)
no_gap (negsuc a) (negsuc b) order = omega (arith, ints)

at_most_last : (lo hi x : ℤ) → lo ≤ℤ x → x <ℤ (lo +ℤ pos (count_between lo hi)) → x ≤ℤ hi
at_most_last lo hi x least before = by_order (int_cmp (hi +ℤ pos 1) lo) (int_ranks (hi +ℤ pos 1) lo)
  where
    by_order : (o : Ordering) → MatchOrdering o ((hi +ℤ pos 1) <ℤ lo) ((hi +ℤ pos 1) ≡ lo) (lo <ℤ (hi +ℤ pos 1)) → x ≤ℤ hi
    by_order Less is = let none : int_gap lo (hi +ℤ pos 1) ≡ 0 = no_gap lo (hi +ℤ pos 1) is in absurd (omega (arith, ints, none))
    by_order Equal is =
        let end : lo +ℤ pos (int_gap lo (hi +ℤ pos 1)) ≡ hi +ℤ pos 1 = end_is lo hi (omega (arith, ints, is)) in omega (arith, ints, end)
    by_order Greater is =
        let end : lo +ℤ pos (int_gap lo (hi +ℤ pos 1)) ≡ hi +ℤ pos 1 = end_is lo hi (omega (arith, ints)) in omega (arith, ints, end)

before_end : (lo hi x : ℤ) → lo ≤ℤ x → x ≤ℤ hi → x <ℤ (lo +ℤ pos (count_between lo hi))
before_end lo hi x least most =
    let end : lo +ℤ pos (int_gap lo (hi +ℤ pos 1)) ≡ hi +ℤ pos 1 = end_is lo hi (omega (arith, ints)) in
    omega (arith, ints, end)

pub ranges_hold : RangesHold
ranges_hold lo hi z = (
  λ h. let r : (lo ≤ℤ z) × (z <ℤ (lo +ℤ pos (count_between lo hi))) = from_counted lo (count_between lo hi) z (In-Contains (up_to lo hi) z h) in
      (r.0, at_most_last lo hi z r.0 r.1),
  λ h. Contains-In (up_to lo hi) z (to_counted lo (count_between lo hi) z h.0 (before_end lo hi z h.0 h.1)),
)

-- Sets.

pub from_inserted : (k : ℤ) (xs : List ℤ) (x : ℤ) → In x (insert_key int_cmp xs k) → (k ≡ x) ⊎ In x xs
from_inserted k [] x h = h
from_inserted k (y ∷ ys) x h = placed (int_cmp k y) (from_inserted k ys x) h
  where
    behind : (k ≡ x) ⊎ In x ys → (k ≡ x) ⊎ In x (y ∷ ys)
    behind (inl is) = inl is
    behind (inr more) = inr (inr more)

    placed : (o : Ordering) → (In x (insert_key int_cmp ys k) → (k ≡ x) ⊎ In x ys)
        → In x (match_ordering o (k ∷ y ∷ ys) (y ∷ ys) (y ∷ insert_key int_cmp ys k)) → (k ≡ x) ⊎ In x (y ∷ ys)
    placed Less later h = h
    placed Equal later h = inr h
    placed Greater later (inl is) = inr (inl is)
    placed Greater later (inr more) = behind (later more)

pub to_inserted : (k : ℤ) (xs : List ℤ) (x : ℤ) → (k ≡ x) ⊎ In x xs → In x (insert_key int_cmp xs k)
to_inserted k [] x h = h
to_inserted k (y ∷ ys) x h = placed (int_cmp k y) (int_ranks k y) (to_inserted k ys x) h
  where
    placed : (o : Ordering) → MatchOrdering o (k <ℤ y) (k ≡ y) (y <ℤ k) → ((k ≡ x) ⊎ In x ys → In x (insert_key int_cmp ys k))
        → (k ≡ x) ⊎ In x (y ∷ ys) → In x (match_ordering o (k ∷ y ∷ ys) (y ∷ ys) (y ∷ insert_key int_cmp ys k))
    placed Less order later h = h
    placed Equal order later (inl is) = inl (sym order ∙ is)
    placed Equal order later (inr h) = h
    placed Greater order later (inl is) = inr (later (inl is))
    placed Greater order later (inr (inl is)) = inl is
    placed Greater order later (inr (inr more)) = inr (later (inr more))

from_folded : (ks xs : List ℤ) (x : ℤ) → In x (fold (insert_key int_cmp) xs ks) → In x ks ⊎ In x xs
from_folded [] xs x h = inr h
from_folded (k ∷ ks) xs x h = parted (from_folded ks (insert_key int_cmp xs k) x h)
  where
    first : (k ≡ x) ⊎ In x xs → In x (k ∷ ks) ⊎ In x xs
    first (inl is) = inl (inl is)
    first (inr more) = inr more

    parted : In x ks ⊎ In x (insert_key int_cmp xs k) → In x (k ∷ ks) ⊎ In x xs
    parted (inl later) = inl (inr later)
    parted (inr here) = first (from_inserted k xs x here)

to_folded : (ks xs : List ℤ) (x : ℤ) → In x ks ⊎ In x xs → In x (fold (insert_key int_cmp) xs ks)
to_folded [] xs x (inl h) = absurd h
to_folded [] xs x (inr h) = h
to_folded (k ∷ ks) xs x (inl (inl is)) = to_folded ks (insert_key int_cmp xs k) x (inr (to_inserted k xs x (inl is)))
to_folded (k ∷ ks) xs x (inl (inr later)) = to_folded ks (insert_key int_cmp xs k) x (inl later)
to_folded (k ∷ ks) xs x (inr h) = to_folded ks (insert_key int_cmp xs k) x (inr (to_inserted k xs x (inr h)))

only_first : (ks : List ℤ) (x : ℤ) → In x ks ⊎ In x [] → In x ks
only_first ks x (inl h) = h
only_first ks x (inr h) = absurd h

pub sets_hold : SetsHold
sets_hold known elements z =
    let numbers : List ℤ = map (value_or_zero known) (trees_list elements) in (
      λ h. Contains-In numbers z (only_first numbers z (from_folded numbers [] z (In-Contains (set_of known elements) z h))),
      λ h. Contains-In (set_of known elements) z (to_folded numbers [] z (inl (In-Contains numbers z h))),
    )
