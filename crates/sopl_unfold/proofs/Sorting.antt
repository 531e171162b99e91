-- A stable sort by stage lists stochastic variables by stage.
use Rattle.std.proofs.Common.{◌≡◌, refl, sym, ap, ◌∙◌, ℕ, zero, suc, ◌+◌, ◌<◌, ◌≤◌, nat_eq, nat_lt, Bool, true, false, cond, not, ◌&&◌, List, [], ◌∷◌, ◌++◌, arith}
use Rattle.std.proofs.lemmas.Bool.{eqb-true}
use Rattle.std.proofs.lemmas.Bool.Decides.{nat_tests}
use Rattle.std.specs.declared.cmp.Ordering.TheVariants.{Less, Equal, Greater}
use Rattle.std.proofs.lemmas.List.Elements.{All-nil, All-cons, All-head, All-tail}
use Rattle.std.proofs.lemmas.List.Sorted.{All-permutation}
use Rattle.std.specs.List.{flat_map, filter, range_with_len, All, AllByRecursion}
use Rattle.std.specs.List.Sorted.{IsPermutation, IsNonDecreasingBy, IsStableByKey}
use Rattle.std.specs.Ordering.{is_lt, nat_cmp}
use Rattle.sopl_base.proofs.Booleans.{tests_agree}
use Rattle.sopl_ast.specs.Instances.{Stochastic, independent}
use Rattle.sopl_ast.specs.Unfolding.{by_stage}
use Rattle.unfold_laws.specs.Bounds.{IsStage}

abbrev pub stage : Stochastic → ℕ
stage s = s.stage

-- Lists.

all_of : {A : Type 0} (P : A → Type 0) (xs : List A) → AllByRecursion P xs → All P xs
all_of P [] all = All-nil P
all_of P (x ∷ xs) all = All-cons P x xs all.0 (all_of P xs all.1)

all_by : {A : Type 0} (P : A → Type 0) (xs : List A) → All P xs → AllByRecursion P xs
all_by P [] all = tt
all_by P (x ∷ xs) all = (All-head P x xs all, all_by P xs (All-tail P x xs all))

-- no stage is below one, and none is below one that stands before it
abbrev Rising : ℕ → List Stochastic → Type 0
Rising a [] = Unit {0}
Rising a (s ∷ ss) = (a ≤ s.stage) × Rising s.stage ss

rising_behind : (s : Stochastic) (ss : List Stochastic) → IsNonDecreasingBy stage (s ∷ ss) → Rising s.stage ss
rising_behind s [] up = tt
rising_behind s (t ∷ ts) up =
    (up 0 1 s (omega arith) (omega arith), rising_behind t ts (λ i j d less within. up (suc i) (suc j) d (omega (arith, less)) (omega (arith, within))))

rising : (ss : List Stochastic) → IsNonDecreasingBy stage ss → AllByRecursion (λ (s : Stochastic). IsStage s.stage) ss → Rising 1 ss
rising [] up all = tt
rising (s ∷ ss) up all = (all.0.0, rising_behind s ss up)

-- those of one stage
abbrev at_stage : List Stochastic → ℕ → List Stochastic
at_stage ss k = filter (λ (s : Stochastic). nat_eq s.stage k) ss

other : (a b : ℕ) → a < b → nat_eq a b ≡ false
other a b less = on (nat_eq a b) (λ same. eqb-true a b same)
  where
    on : (c : Bool) → (c ≡ true → a ≡ b) → c ≡ false
    on true same = let is = same refl in absurd (omega (arith, is, less))
    on false same = refl

other_above : (a b : ℕ) → b < a → nat_eq a b ≡ false
other_above a b less = on (nat_eq a b) (λ same. eqb-true a b same)
  where
    on : (c : Bool) → (c ≡ true → a ≡ b) → c ≡ false
    on true same = let is = same refl in absurd (omega (arith, is, less))
    on false same = refl

-- a variable of an earlier stage adds nothing at later ones
later_stages : (s : Stochastic) (ss : List Stochastic) (a n : ℕ) → s.stage < a → flat_map (at_stage (s ∷ ss)) (range_with_len a n) ≡ flat_map (at_stage ss) (range_with_len a n)
later_stages s ss a zero less = refl
later_stages s ss a (suc n) less =
    (λ i. cond (other s.stage a less i) (s ∷ at_stage ss a) (at_stage ss a) ++ flat_map (at_stage (s ∷ ss)) (range_with_len (a + 1) n))
    ∙ ap (λ rest. at_stage ss a ++ rest) (later_stages s ss (a + 1) n (omega (arith, less)))

-- none of a rising list is of a stage below its first
none_below : (ss : List Stochastic) (a b : ℕ) → a < b → Rising b ss → at_stage ss a ≡ []
none_below [] a b less up = refl
none_below (s ∷ ss) a b less up =
    (λ i. cond (other_above s.stage a (omega (arith, less, up.0)) i) (s ∷ at_stage ss a) (at_stage ss a)) ∙ none_below ss a s.stage (omega (arith, less, up.0)) up.1

rising_from : (ss : List Stochastic) (a b : ℕ) → a ≤ b → Rising b ss → Rising a ss
rising_from [] a b less up = tt
rising_from (s ∷ ss) a b less up = (omega (arith, less, up.0), up.1)

abbrev Below : ℕ → List Stochastic → Type 0
Below n ss = AllByRecursion (λ (s : Stochastic). s.stage < n) ss

-- a rising list, taken stage by stage, is the list
taken : (n a : ℕ) (ss : List Stochastic) → Rising a ss → Below (a + n) ss → flat_map (at_stage ss) (range_with_len a n) ≡ ss
taken zero a [] up below = refl
taken zero a (s ∷ ss) up below = absurd (omega (arith, up.0, below.0))
taken (suc n) a ss up below = inner (taken n (a + 1)) ss up below
  where
    inner : ((ts : List Stochastic) → Rising (a + 1) ts → Below ((a + 1) + n) ts → flat_map (at_stage ts) (range_with_len (a + 1) n) ≡ ts)
        → (ts : List Stochastic) → Rising a ts → Below (a + suc n) ts → flat_map (at_stage ts) (range_with_len a (suc n)) ≡ ts
    inner later [] up below = later [] tt tt
    inner later (s ∷ ss) up below = on (nat_eq s.stage a) refl (inner later ss)
      where
        on : (b : Bool) → nat_eq s.stage a ≡ b
            → (Rising a ss → Below (a + suc n) ss → flat_map (at_stage ss) (range_with_len a (suc n)) ≡ ss)
            → cond b (s ∷ at_stage ss a) (at_stage ss a) ++ flat_map (at_stage (s ∷ ss)) (range_with_len (a + 1) n) ≡ s ∷ ss
        on true same again =
            let is = eqb-true s.stage a same in
            ap (λ rest. s ∷ (at_stage ss a ++ rest)) (later_stages s ss (a + 1) n (omega (arith, is)))
            ∙ ap (λ rest. s ∷ rest) (again (rising_from ss a s.stage (omega (arith, is)) up.1) below.1)
        on false same again =
            let differ : a < s.stage = above s.stage a up.0 same in
            ap (λ prefix. prefix ++ flat_map (at_stage (s ∷ ss)) (range_with_len (a + 1) n)) (none_below ss a s.stage differ up.1)
            ∙ later (s ∷ ss) (omega (arith, differ), up.1) (moved (s ∷ ss) below)
          where
            above : (k m : ℕ) → m ≤ k → nat_eq k m ≡ false → m < k
            above k m least other = grind (arith, nat_tests)

            moved : (ts : List Stochastic) → Below (a + suc n) ts → Below ((a + 1) + n) ts
            moved [] below = tt
            moved (t ∷ ts) below = (omega (arith, below.0), moved ts below.1)

-- Those of one stage are the same, since a stable sort keeps the order of those that tie.

abbrev of_stage : ℕ → Stochastic
of_stage k = independent [] [] [] k

abbrev tie : ℕ → ℕ → Bool
tie k m = not (is_lt (nat_cmp k m)) && not (is_lt (nat_cmp m k))

less_told : (k m : ℕ) → is_lt (nat_cmp k m) ≡ nat_lt k m
less_told k m = on (nat_lt k m) (nat_eq k m)
  where
    on : (a b : Bool) → is_lt (cond a Less (cond b Equal Greater)) ≡ a
    on true b = refl
    on false true = refl
    on false false = refl

ties_equal : (k m : ℕ) → tie k m ≡ nat_eq m k
ties_equal k m =
    (λ i. not (less_told k m i) && not (less_told m k i)) ∙ tests_agree (not (nat_lt k m) && not (nat_lt m k)) (nat_eq m k) (from_ties k m) (to_ties k m)
  where
    from_ties : (k m : ℕ) → (not (nat_lt k m) && not (nat_lt m k)) ≡ true → nat_eq m k ≡ true
    from_ties k m is = grind (arith, nat_tests)

    to_ties : (k m : ℕ) → nat_eq m k ≡ true → (not (nat_lt k m) && not (nat_lt m k)) ≡ true
    to_ties k m is = grind (arith, nat_tests)

same_filter : (p q : Stochastic → Bool) → ((s : Stochastic) → p s ≡ q s) → (ss : List Stochastic) → filter p ss ≡ filter q ss
same_filter p q same ss = ap (λ t. filter t ss) (λ i s. same s i)

same_stage : (xs ys : List Stochastic) → IsStableByKey stage nat_cmp xs ys → (k : ℕ) → at_stage ys k ≡ at_stage xs k
same_stage xs ys stable k =
    same_filter (λ (s : Stochastic). nat_eq s.stage k) (λ (s : Stochastic). tie k s.stage) (λ s. sym (ties_equal k s.stage)) ys
    ∙ stable (of_stage k)
    ∙ same_filter (λ (s : Stochastic). tie k s.stage) (λ (s : Stochastic). nat_eq s.stage k) (λ s. ties_equal k s.stage) xs

all_below : (ss : List Stochastic) → AllByRecursion (λ (s : Stochastic). IsStage s.stage) ss → Below 25 ss
all_below [] all = tt
all_below (s ∷ ss) all = (omega (arith, all.0.1), all_below ss all.1)

pub sorted_by_stage : (xs ys : List Stochastic) → AllByRecursion (λ (s : Stochastic). IsStage s.stage) xs → IsPermutation xs ys
    → IsNonDecreasingBy stage ys → IsStableByKey stage nat_cmp xs ys → ys ≡ by_stage xs
unfolding by_stage
sorted_by_stage xs ys all moved up stable =
    let here = all_by (λ (s : Stochastic). IsStage s.stage) ys (All-permutation (λ (s : Stochastic). IsStage s.stage) xs ys moved (all_of (λ (s : Stochastic). IsStage s.stage) xs all)) in
    sym (taken 24 1 ys (rising ys up here) (all_below ys here)) ∙ ap (λ f. flat_map f (range_with_len 1 24)) (λ i k. same_stage xs ys stable k i)
