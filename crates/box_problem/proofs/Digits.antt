-- The binary digits of a number.
use Rattle.std.proofs.Common.{◌≡◌, inl, inr, ℕ, zero, suc, ◌+◌, ◌*◌, ◌^◌, ◌<◌, ◌≤◌, Bool, true, false, nat_le, length, filter, arith, sym, subst}
use Rattle.std.specs.List.{range_with_len}
use Rattle.std.proofs.Math.Nat.{pow-suc}
use Rattle.std.proofs.lemmas.Bool.{leb-true, le-leb, cases_Bool}
use Rattle.sopl_base.proofs.Lists.{filter_drops, filter_keeps}
use Rattle.box_problem.specs.Bits.{digits}

-- places that are the same
at_zero : (p q : ℕ → Bool) (a b : ℕ) → (p (a + 0) ≡ true → q (b + 0) ≡ true) → p a ≡ true → q b ≡ true
at_zero p q a b gives is =
    let here : a + 0 ≡ a = omega arith in
    let there : b + 0 ≡ b = omega arith in
    subst (λ (n : ℕ). q n ≡ true) there (gives (subst (λ (n : ℕ). p n ≡ true) (sym here) is))

at_later : (p q : ℕ → Bool) (a b j : ℕ) → (p (a + suc j) ≡ true → q (b + suc j) ≡ true) → p (a + 1 + j) ≡ true → q (b + 1 + j) ≡ true
at_later p q a b j gives is =
    let here : a + suc j ≡ a + 1 + j = omega arith in
    let there : b + suc j ≡ b + 1 + j = omega arith in
    subst (λ (n : ℕ). q n ≡ true) there (gives (subst (λ (n : ℕ). p n ≡ true) (sym here) is))

at_start : (p : ℕ → Bool) (a : ℕ) → p (a + 0) ≡ false → p a ≡ false
at_start p a is =
    let here : a + 0 ≡ a = omega arith in
    subst (λ (n : ℕ). p n ≡ false) here is

at_next : (p : ℕ → Bool) (a n : ℕ) → p (a + suc n) ≡ false → p (a + 1 + n) ≡ false
at_next p a n is =
    let here : a + suc n ≡ a + 1 + n = omega arith in
    subst (λ (m : ℕ). p m ≡ false) here is

-- what passes the one test among n numbers passes the other one, so many places later
as_many : (p q : ℕ → Bool) (a b n : ℕ) → ((j : ℕ) → p (a + j) ≡ true → q (b + j) ≡ true) → length (filter p (range_with_len a n)) ≤ length (filter q (range_with_len b n))
as_many p q a b zero gives = omega arith
as_many p q a b (suc n) gives =
    let later = as_many p q (a + 1) (b + 1) n (λ j. at_later p q a b j (gives (suc j))) in
    elim (cases_Bool (p a)) [
      | inl yes_p ↦ omega (arith, later, filter_keeps p a (range_with_len (a + 1) n) yes_p, filter_keeps q b (range_with_len (b + 1) n) (at_zero p q a b (gives 0) yes_p))
      | inr not_p ↦ elim (cases_Bool (q b)) [
        | inl yes_q ↦ omega (arith, later, filter_drops p a (range_with_len (a + 1) n) not_p, filter_keeps q b (range_with_len (b + 1) n) yes_q)
        | inr not_q ↦ omega (arith, later, filter_drops p a (range_with_len (a + 1) n) not_p, filter_drops q b (range_with_len (b + 1) n) not_q)
      ]
    ]

-- the last of n + 1 numbers may be left out where it does not pass
last_left_out : (p : ℕ → Bool) (a n : ℕ) → p (a + n) ≡ false → length (filter p (range_with_len a (suc n))) ≡ length (filter p (range_with_len a n))
last_left_out p a zero fails = filter_drops p a (range_with_len (a + 1) 0) (at_start p a fails)
last_left_out p a (suc n) fails =
    let later = last_left_out p (a + 1) n (at_next p a n fails) in
    elim (cases_Bool (p a)) [
      | inl passes ↦ omega (arith, later, filter_keeps p a (range_with_len (a + 1) (suc n)) passes, filter_keeps p a (range_with_len (a + 1) n) passes)
      | inr not_passes ↦ omega (arith, later, filter_drops p a (range_with_len (a + 1) (suc n)) not_passes, filter_drops p a (range_with_len (a + 1) n) not_passes)
    ]

-- a greater number has as many digits, or more
pub digits_most : (h g : ℕ) → h ≤ g → digits h ≤ digits g
unfolding digits
digits_most h g order =
    as_many (λ k. nat_le (2 ^ k) h) (λ k. nat_le (2 ^ k) g) 0 0 64
    (λ j passes. le-leb (2 ^ (0 + j)) g (omega (arith, order, leb-true (2 ^ (0 + j)) h passes)))

-- a number that is twice as great, or more, has one digit more
twice : (h g j : ℕ) → 2 * h ≤ g → nat_le (2 ^ (0 + j)) h ≡ true → nat_le (2 ^ (1 + j)) g ≡ true
twice h g j order passes =
    let same : 0 + j ≡ j = omega arith in
    let next : 1 + j ≡ suc j = omega arith in
    let small : 2 ^ j ≤ h = leb-true (2 ^ j) h (subst (λ (k : ℕ). nat_le (2 ^ k) h ≡ true) same passes) in
    subst (λ (k : ℕ). nat_le (2 ^ k) g ≡ true) (sym next) (le-leb (2 ^ suc j) g (omega (arith, order, small, pow-suc 2 j)))

too_great : (h g : ℕ) → 2 * h ≤ g → g < 2 ^ 64 → nat_le (2 ^ 63) h ≡ false
too_great h g order small = grind (arith, order, small)

one_passes : (g : ℕ) → 0 < g → nat_le (2 ^ 0) g ≡ true
one_passes g some = le-leb (2 ^ 0) g (omega (arith, some))

pub digits_halved : (h g : ℕ) → 2 * h ≤ g → 0 < g → g < 2 ^ 64 → digits h < digits g
unfolding digits
digits_halved h g order some small =
    let p : ℕ → Bool = λ k. nat_le (2 ^ k) h in
    let q : ℕ → Bool = λ k. nat_le (2 ^ k) g in
    let short = last_left_out p 0 63 (too_great h g order small) in
    let fewer = as_many p q 0 1 63 (λ j passes. twice h g j order passes) in
    let first = filter_keeps q 0 (range_with_len 1 63) (one_passes g some) in
    omega (arith, short, fewer, first)
