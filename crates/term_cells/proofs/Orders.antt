-- Cells that are put into a set, in whichever order.
use Rattle.std.proofs.Common.{◌≡◌, ℕ, ◌<◌, List, [], ◌∷◌, arith, refl, ap, subst, sym, ◌∙◌}
use Rattle.std.specs.BTreeSet.{insert_key}
use Rattle.std.specs.Cmp.{nat_cmp_is, ranked}
use Rattle.std.specs.Ordering.{MatchOrdering, match_ordering, nat_cmp}
use Rattle.std.specs.declared.cmp.Ordering.{Ordering}
use Rattle.std.specs.declared.cmp.Ordering.TheVariants.{Less, Equal, Greater}
use Rattle.term_cells.specs.Cells.{with_cells}

abbrev put : List ℕ → ℕ → List ℕ
put set x = insert_key nat_cmp set x

-- where a cell stands beside the first one
put_by : (x k : ℕ) (ks : List ℕ) (o : Ordering) → o ≡ nat_cmp x k → put (k ∷ ks) x ≡ match_ordering o (x ∷ k ∷ ks) (k ∷ ks) (k ∷ put ks x)
put_by x k ks o is = ap (λ (r : Ordering). match_ordering r (x ∷ k ∷ ks) (k ∷ ks) (k ∷ put ks x)) (sym is)

put_before : (x k : ℕ) (ks : List ℕ) → x < k → put (k ∷ ks) x ≡ x ∷ k ∷ ks
put_before x k ks before = put_by x k ks Less (nat_cmp_is x k Less before)

put_again : (x k : ℕ) (ks : List ℕ) → x ≡ k → put (k ∷ ks) x ≡ k ∷ ks
put_again x k ks same = put_by x k ks Equal (nat_cmp_is x k Equal same)

put_behind : (x k : ℕ) (ks : List ℕ) → k < x → put (k ∷ ks) x ≡ k ∷ put ks x
put_behind x k ks behind = put_by x k ks Greater (nat_cmp_is x k Greater behind)

-- two cells, of which the first is less
abbrev BothWays : ℕ → ℕ → List ℕ → Type 0
BothWays x y set = put (put set x) y ≡ put (put set y) x

both_before : (x y k : ℕ) (ks : List ℕ) → x < y → y < k → BothWays x y (k ∷ ks)
both_before x y k ks less before =
    let first : x < k = omega (arith, less, before) in
    ap (λ (s : List ℕ). put s y) (put_before x k ks first) ∙ put_behind y x (k ∷ ks) less ∙ ap (λ (s : List ℕ). x ∷ s) (put_before y k ks before)
    ∙ sym (ap (λ (s : List ℕ). put s x) (put_before y k ks before) ∙ put_before x y (k ∷ ks) less)

second_there : (x y k : ℕ) (ks : List ℕ) → x < y → y ≡ k → BothWays x y (k ∷ ks)
second_there x y k ks less same =
    let first : x < k = omega (arith, less, same) in
    ap (λ (s : List ℕ). put s y) (put_before x k ks first) ∙ put_behind y x (k ∷ ks) less ∙ ap (λ (s : List ℕ). x ∷ s) (put_again y k ks same)
    ∙ sym (ap (λ (s : List ℕ). put s x) (put_again y k ks same) ∙ put_before x k ks first)

between : (x y k : ℕ) (ks : List ℕ) → x < y → x < k → k < y → BothWays x y (k ∷ ks)
between x y k ks less before behind =
    ap (λ (s : List ℕ). put s y) (put_before x k ks before) ∙ put_behind y x (k ∷ ks) less ∙ ap (λ (s : List ℕ). x ∷ s) (put_behind y k ks behind)
    ∙ sym (ap (λ (s : List ℕ). put s x) (put_behind y k ks behind) ∙ put_before x k (put ks y) before)

first_there : (x y k : ℕ) (ks : List ℕ) → x ≡ k → k < y → BothWays x y (k ∷ ks)
first_there x y k ks same behind =
    ap (λ (s : List ℕ). put s y) (put_again x k ks same) ∙ put_behind y k ks behind
    ∙ sym (ap (λ (s : List ℕ). put s x) (put_behind y k ks behind) ∙ put_again x k (put ks y) same)

both_behind : (x y k : ℕ) (ks : List ℕ) → k < x → k < y → BothWays x y ks → BothWays x y (k ∷ ks)
both_behind x y k ks first second later =
    ap (λ (s : List ℕ). put s y) (put_behind x k ks first) ∙ put_behind y k (put ks x) second ∙ ap (λ (s : List ℕ). k ∷ s) later
    ∙ sym (ap (λ (s : List ℕ). put s x) (put_behind y k ks second) ∙ put_behind x k (put ks y) first)

first_by : (o : Ordering) (x y k : ℕ) (ks : List ℕ) → x < y → k < y → BothWays x y ks → MatchOrdering o (x < k) (x ≡ k) (k < x) → BothWays x y (k ∷ ks)
first_by Less x y k ks less behind later here = between x y k ks less here behind
first_by Equal x y k ks less behind later here = first_there x y k ks here behind
first_by Greater x y k ks less behind later here = both_behind x y k ks here behind later

second_by : (o : Ordering) (x y k : ℕ) (ks : List ℕ) → x < y → BothWays x y ks → MatchOrdering o (y < k) (y ≡ k) (k < y) → BothWays x y (k ∷ ks)
second_by Less x y k ks less later here = both_before x y k ks less here
second_by Equal x y k ks less later here = second_there x y k ks less here
second_by Greater x y k ks less later here = first_by (nat_cmp x k) x y k ks less here later (ranked x k (nat_cmp x k) refl)

less_first : (x y : ℕ) (set : List ℕ) → x < y → BothWays x y set
less_first x y [] less = put_behind y x [] less ∙ sym (put_before x y [] less)
less_first x y (k ∷ ks) less = second_by (nat_cmp y k) x y k ks less (less_first x y ks less) (ranked y k (nat_cmp y k) refl)

-- any two
two_by : (o : Ordering) (x y : ℕ) (set : List ℕ) → MatchOrdering o (x < y) (x ≡ y) (y < x) → BothWays x y set
two_by Less x y set here = less_first x y set here
two_by Equal x y set here = subst (λ (z : ℕ). BothWays x z set) here refl
two_by Greater x y set here = sym (less_first y x set here)

two_cells : (x y : ℕ) (set : List ℕ) → BothWays x y set
two_cells x y set = two_by (nat_cmp x y) x y set (ranked x y (nat_cmp x y) refl)

-- a cell and a list of them, and two lists
one_more : (x : ℕ) (set ys : List ℕ) → put (with_cells set ys) x ≡ with_cells (put set x) ys
one_more x set [] = refl
one_more x set (y ∷ ys) = one_more x (put set y) ys ∙ ap (λ (s : List ℕ). with_cells s ys) (two_cells y x set)

pub either_order : (set xs ys : List ℕ) → with_cells (with_cells set ys) xs ≡ with_cells (with_cells set xs) ys
either_order set [] ys = refl
either_order set (x ∷ xs) ys = ap (λ (s : List ℕ). with_cells s xs) (one_more x set ys) ∙ either_order (put set x) xs ys
