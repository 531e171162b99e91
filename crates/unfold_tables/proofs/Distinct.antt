-- Whether numbers are all different, found by a set of those that were seen.
use Rattle.std.proofs.Common.{◌≡◌, refl, sym, ap, ◌∙◌, ℕ, ◌+◌, ◌<◌, ◌≤◌, ℤ, pos, Bool, true, false, not, ◌&&◌, ◌||◌, cond, List, [], ◌∷◌, length, get_or, drop}
use Rattle.std.proofs.lemmas.List.{at_drop_more, at_drop_all}
use Rattle.std.specs.List.{list_all, list_any}
use Rattle.std.specs.Ordering.{int_eq, int_cmp}
use Rattle.std.specs.BTreeSet.{BTreeSet, contains, Updates}
use Rattle.sopl_ast.specs.Numbers.{all_distinct}

-- no number is one that is taken, or stands twice
abbrev pub distinct_from : (ℤ → Bool) → List ℤ → Bool
distinct_from taken [] = true
distinct_from taken (x ∷ xs) = not (taken x) && distinct_from (λ q. cond (int_eq x q) true (taken q)) xs

head_split : (e t a b : Bool) → (not (cond e true t) && (a && not b)) ≡ ((not t && a) && not (e || b))
head_split true true a b = refl
head_split true false true b = refl
head_split true false false b = refl
head_split false true a b = refl
head_split false false a b = refl

none_taken : (taken : ℤ → Bool) (x : ℤ) (xs : List ℤ)
    → list_all (λ y. not (cond (int_eq x y) true (taken y))) xs ≡ (list_all (λ y. not (taken y)) xs && not (list_any (int_eq x) xs))
none_taken taken x [] = refl
none_taken taken x (y ∷ ys) =
    ap (λ rest. not (cond (int_eq x y) true (taken y)) && rest) (none_taken taken x ys)
    ∙ head_split (int_eq x y) (taken y) (list_all (λ y. not (taken y)) ys) (list_any (int_eq x) ys)

and_split : (a b c d : Bool) → (a && ((b && c) && d)) ≡ ((a && b) && (c && d))
and_split true true c d = refl
and_split true false c d = refl
and_split false b c d = refl

apart : (taken : ℤ → Bool) (xs : List ℤ) → distinct_from taken xs ≡ (list_all (λ y. not (taken y)) xs && all_distinct xs)
apart taken [] = refl
apart taken (x ∷ xs) =
    ap (λ rest. not (taken x) && rest) (apart (λ q. cond (int_eq x q) true (taken q)) xs)
    ∙ ap (λ all. not (taken x) && (all && all_distinct xs)) (none_taken taken x xs)
    ∙ and_split (not (taken x)) (list_all (λ y. not (taken y)) xs) (not (list_any (int_eq x) xs)) (all_distinct xs)

none_is : (xs : List ℤ) → list_all (λ (y : ℤ). true) xs ≡ true
none_is [] = refl
none_is (x ∷ xs) = none_is xs

-- nothing was seen
pub distinct_none : (seen : BTreeSet ℤ) → seen.keys ≡ [] → (xs : List ℤ) → distinct_from (contains int_cmp seen) xs ≡ all_distinct xs
distinct_none seen empty xs =
    ap (λ keys. distinct_from (λ q. list_any (int_eq q) keys) xs) empty
    ∙ apart (λ q. false) xs
    ∙ ap (λ b. b && all_distinct xs) (none_is xs)

module _ (xs : List ℤ) (i : ℕ) (seen : BTreeSet ℤ) where
  -- the next number was not seen, and is now
  pub distinct_more : (x : ℤ) (now : BTreeSet ℤ) → i < length xs → x ≡ get_or xs i (pos 0) → contains int_cmp seen x ≡ false → Updates int_cmp seen now x true
      → distinct_from (contains int_cmp now) (drop (i + 1) xs) ≡ distinct_from (contains int_cmp seen) (drop i xs)
  distinct_more x now below at fresh updates =
      ap (λ taken. distinct_from taken (drop (i + 1) xs)) (λ j q. updates.0 q j)
      ∙ sym (ap (λ t. not t && distinct_from (λ q. cond (int_eq x q) true (contains int_cmp seen q)) (drop (i + 1) xs)) fresh)
      ∙ ap (λ y. distinct_from (contains int_cmp seen) (y ∷ drop (i + 1) xs)) at
      ∙ sym (at_drop_more (λ rest. distinct_from (contains int_cmp seen) rest) xs i (pos 0) below)

  -- the next number was seen
  pub distinct_twice : (x : ℤ) → i < length xs → x ≡ get_or xs i (pos 0) → contains int_cmp seen x ≡ true
      → distinct_from (contains int_cmp seen) (drop i xs) ≡ false
  distinct_twice x below at taken =
      at_drop_more (λ rest. distinct_from (contains int_cmp seen) rest) xs i (pos 0) below
      ∙ sym (ap (λ y. distinct_from (contains int_cmp seen) (y ∷ drop (i + 1) xs)) at)
      ∙ ap (λ t. not t && distinct_from (λ q. cond (int_eq x q) true (contains int_cmp seen q)) (drop (i + 1) xs)) taken

  -- no number is left
  pub distinct_end : length xs ≤ i → distinct_from (contains int_cmp seen) (drop i xs) ≡ true
  distinct_end past = at_drop_all (λ rest. distinct_from (contains int_cmp seen) rest) xs i past

pub ruleset distinct = (distinct_none, distinct_more, distinct_twice, distinct_end)
