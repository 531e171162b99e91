-- Weights times numbers.
use Rattle.std.proofs.Common.{arith, ◌≡◌, refl, sym, ap, subst, ◌∙◌, ℕ, zero, suc, ◌+◌, ◌*◌, ◌^◌, ◌<◌, ◌≤◌, ℤ, pos, negsuc, ◌+ℤ◌, ◌*ℤ◌, ◌≤ℤ◌, unsigned_abs, Bool, true, false, List, [], ◌∷◌, filter, map, if◌then◌else◌}
use Rattle.std.proofs.Math.IntN.{one, +ℤ_idl, *ℤ-one, *ℤ-zero}
use Rattle.std.proofs.Math.Nat.{mul-add, mul_comm}
use Rattle.std.proofs.lemmas.Int.{fits_signed_from_abs, ints, unsigned_abs-mul}
use Rattle.std.specs.Int.{w128}
use Rattle.std.specs.List.{AllByRecursion}
use Rattle.sopl_base.proofs.Sizes.{plus_size}
use Rattle.sopl_ast.specs.Numbers.{one_or_zero, total}
use Rattle.policy_eval.specs.Tried.{FitOn, weighted}

-- a weight times 1
once : (w : ℤ) → w *ℤ pos 1 ≡ w
unfolding one
once w = *ℤ-one w

never : (w : ℤ) → w *ℤ pos 0 ≡ pos 0
never w = *ℤ-zero w

-- the weight of elements for which a test holds
pub weighted_truths : {A : Type 0} (weight : A → ℤ) (test : A → Bool) (zs : List A) → weighted (map weight zs) (map (λ z. one_or_zero (test z)) zs) ≡ total (map weight (filter test zs))
weighted_truths weight test [] = refl
weighted_truths {A} weight test (z ∷ zs) = ap (λ rest. (weight z *ℤ one_or_zero (test z)) +ℤ rest) (weighted_truths weight test zs) ∙ by_test (test z)
  where
    by_test : (b : Bool) → (weight z *ℤ one_or_zero b) +ℤ total (map weight (filter test zs)) ≡ total (map weight (if b then z ∷ filter test zs else filter test zs))
    by_test true = ap (λ w. w +ℤ total (map weight (filter test zs))) (once (weight z))
    by_test false = ap (λ w. w +ℤ total (map weight (filter test zs))) (never (weight z)) ∙ +ℤ_idl (total (map weight (filter test zs)))

-- such a sum lies between 0 and the sum of all weights
pub record IsBetween (low z high : ℤ) : Type 0 where
  pub from_low : low ≤ℤ z
  pub to_high : z ≤ℤ high

pub truths_between : {A : Type 0} (test : A → Bool) (ws : List ℤ) (zs : List A) → AllByRecursion (λ w. pos 1 ≤ℤ w) ws → IsBetween (pos 0) (weighted ws (map (λ z. one_or_zero (test z)) zs)) (total ws)
truths_between test [] zs positive = record { from_low = omega (arith, ints); to_high = omega (arith, ints) }
truths_between test (w ∷ ws) [] positive = let later = truths_between test ws [] positive.1 in record { from_low = omega (arith, ints); to_high = least w ws positive }
  where
    least : (w : ℤ) (ws : List ℤ) → AllByRecursion (λ w. pos 1 ≤ℤ w) (w ∷ ws) → pos 0 ≤ℤ (w +ℤ total ws)
    least w [] all = omega (arith, ints, all.0)
    least w (v ∷ vs) all = omega (arith, ints, all.0, least v vs all.1)
truths_between test (w ∷ ws) (z ∷ zs) positive =
    let later = truths_between test ws zs positive.1 in by_test (test z) (weighted ws (map (λ x. one_or_zero (test x)) zs)) later.from_low later.to_high
  where
    by_test : (b : Bool) (rest : ℤ) → pos 0 ≤ℤ rest → rest ≤ℤ total ws → IsBetween (pos 0) ((w *ℤ one_or_zero b) +ℤ rest) (w +ℤ total ws)
    by_test true rest low high =
        subst (λ v. IsBetween (pos 0) (v +ℤ rest) (w +ℤ total ws)) (sym (once w))
        (record { from_low = omega (arith, ints, positive.0, low); to_high = omega (arith, ints, high) })
    by_test false rest low high =
        subst (λ v. IsBetween (pos 0) (v +ℤ rest) (w +ℤ total ws)) (sym (never w))
        (record { from_low = omega (arith, ints, low); to_high = omega (arith, ints, positive.0, high) })

-- Room.

-- the sizes of weights together
abbrev pub sizes : List ℤ → ℕ
sizes [] = 0
sizes (w ∷ ws) = unsigned_abs w + sizes ws

abbrev pub AreAtMost : ℕ → List ℤ → Type 0
AreAtMost n xs = AllByRecursion (λ x. unsigned_abs x ≤ n) xs

more_than : (a n m : ℕ) → m ≤ n → m * a ≤ n * a
more_than zero n m le = omega arith
more_than (suc a) n m le = omega (arith, more_than a n m le)

-- numbers of a size have room
pub they_fit : (n : ℕ) (sum : ℤ) (ws xs : List ℤ) → AreAtMost n xs → unsigned_abs sum + n * sizes ws ≤ 2 ^ 126 → FitOn sum ws xs
they_fit n sum [] xs small room = tt
they_fit n sum (w ∷ ws) [] small room = tt
they_fit n sum (w ∷ ws) (x ∷ xs) small room =
    let parts : n * (unsigned_abs w + sizes ws) ≡ n * unsigned_abs w + n * sizes ws = mul-add n (unsigned_abs w) (sizes ws) in
    let product : unsigned_abs (w *ℤ x) ≡ unsigned_abs x * unsigned_abs w = unsigned_abs-mul w x ∙ mul_comm (unsigned_abs w) (unsigned_abs x) in
    let most : unsigned_abs x * unsigned_abs w ≤ n * unsigned_abs w = more_than (unsigned_abs w) n (unsigned_abs x) small.0 in
    let next : unsigned_abs (sum +ℤ (w *ℤ x)) ≤ unsigned_abs sum + unsigned_abs (w *ℤ x) = plus_size sum (w *ℤ x) in
    let enough : unsigned_abs (sum +ℤ (w *ℤ x)) + n * sizes ws ≤ 2 ^ 126 = omega (arith, parts, product, most, next, room) in
    let of_product : unsigned_abs (w *ℤ x) < 2 ^ 127 = omega (arith, parts, product, most, room) in
    let of_sum : unsigned_abs (sum +ℤ (w *ℤ x)) < 2 ^ 127 = omega (arith, enough) in
    (fits_signed_from_abs w128 (w *ℤ x) of_product, fits_signed_from_abs w128 (sum +ℤ (w *ℤ x)) of_sum, they_fit n (sum +ℤ (w *ℤ x)) ws xs small.1 enough)

-- weights of at least 1 are as large as their sum
pub sizes_sum : (ws : List ℤ) → AllByRecursion (λ w. pos 1 ≤ℤ w) ws → pos (sizes ws) ≡ total ws
sizes_sum [] positive = refl
sizes_sum (w ∷ ws) positive = by_sign w positive.0 (sizes_sum ws positive.1)
  where
    by_sign : (w : ℤ) → pos 1 ≤ℤ w → pos (sizes ws) ≡ total ws → pos (unsigned_abs w + sizes ws) ≡ w +ℤ total ws
    by_sign (pos k) low is = omega (arith, ints, is)
    by_sign (negsuc k) low is = absurd (omega (arith, ints, low))

-- truths are no larger than 1
pub truths_small : {A : Type 0} (test : A → Bool) (zs : List A) → AreAtMost 1 (map (λ z. one_or_zero (test z)) zs)
truths_small test [] = tt
truths_small test (z ∷ zs) = (by_test (test z), truths_small test zs)
  where
    by_test : (b : Bool) → unsigned_abs (one_or_zero b) ≤ 1
    by_test true = omega arith
    by_test false = omega arith
