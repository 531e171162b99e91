-- The binary digits of a number.
use Rattle.std.proofs.Common.{◌≡◌, ◌⊎◌, inl, inr, ◌+◌, ◌*◌, ◌≤◌, ◌<◌, ◌^◌, ℕ, zero, suc, ℤ, pos, negsuc, ◌-ℤ◌, ◌≤ℤ◌, ◌<ℤ◌, Bool, true, false, nat_le, List, length}
use Rattle.std.proofs.Common.{filter, unsigned_abs, arith, refl, sym, ap, subst, ◌∙◌}
use Rattle.std.proofs.Math.Nat.{pow-le-pow_right, pow-suc}
use Rattle.std.proofs.lemmas.Bool.{le-leb}
use Rattle.std.proofs.lemmas.Int.{ints}
use Rattle.std.specs.Int.{int_gap}
use Rattle.std.specs.List.{range_with_len}
use Rattle.std.proofs.Math.Nat.{mul-le-mul}
use Rattle.sopl_base.proofs.Lists.{filter_drops, filter_keeps}
use Rattle.sopl_ast.specs.Numbers.{binary_digits}
use Rattle.sopl_ast.specs.Instances.{Decision}
use Rattle.unfold_laws.specs.Bounds.{IsBoundedDecision}
use Rattle.sopl_scen.specs.declared.stages.Stage.{Stage}
use Rattle.sopl_scen.specs.Stages.{bit_count, cell_count}

none_left : (p : ℕ → Bool) (b a n : ℕ) → ((k : ℕ) → b ≤ k → p k ≡ false) → b ≤ a → length (filter p (range_with_len a n)) ≡ 0
none_left p b a zero absent order = refl
none_left p b a (suc n) absent order = filter_drops p a (range_with_len (a + 1) n) (absent a order) ∙ none_left p b (a + 1) n absent (omega (arith, order))

counted : (p : ℕ → Bool) (b a n m : ℕ) → ((k : ℕ) → k < b → p k ≡ true) → ((k : ℕ) → b ≤ k → p k ≡ false) → a + m ≡ b → m ≤ n
    → length (filter p (range_with_len a n)) ≡ m
counted p b a n zero present absent sum few = none_left p b a n absent (omega (arith, sum))
counted p b a zero (suc m) present absent sum few = absurd (omega (arith, few))
counted p b a (suc n) (suc m) present absent sum few =
    filter_keeps p a (range_with_len (a + 1) n) (present a (omega (arith, sum))) ∙ ap suc (counted p b (a + 1) n m present absent (omega (arith, sum)) (omega (arith, few)))

not_le : (a b : ℕ) → b < a → nat_le a b ≡ false
not_le a b is = grind (arith, is)

digits_are : (n b : ℕ) → n < 2 ^ b → (0 < b → 2 ^ b ≤ 2 * n) → b ≤ 64 → b ≡ binary_digits n
digits_are n b enough least few =
    sym (counted (λ k. nat_le (2 ^ k) n) b 0 64 b (λ k below. le-leb (2 ^ k) n (within k below)) (λ k above. not_le (2 ^ k) n (past k above)) (omega arith) few)
  where
    within : (k : ℕ) → k < b → 2 ^ k ≤ n
    within k below =
        let some : 0 < b = omega (arith, below) in
        let power : 2 ^ suc k ≤ 2 ^ b = pow-le-pow_right (omega arith) below in
        let twice : 2 ^ suc k ≡ 2 ^ k * 2 = pow-suc 2 k in
        omega (arith, least some, power, twice)

    past : (k : ℕ) → b ≤ k → n < 2 ^ k
    past k above =
        let power : 2 ^ b ≤ 2 ^ k = pow-le-pow_right (omega arith) above in
        omega (arith, power, enough)

digits_few : (n b : ℕ) → 2 ^ b ≤ 2 * n → n ≤ 2 ^ 41 → b ≤ 64
digits_few n b least few = by_order (order b)
  where
    order : (k : ℕ) → (k ≤ 64) ⊎ (65 ≤ k)
    order k = grind arith

    by_order : (b ≤ 64) ⊎ (65 ≤ b) → b ≤ 64
    by_order (inl is) = is
    by_order (inr is) =
        let power : 2 ^ 65 ≤ 2 ^ b = pow-le-pow_right (omega arith) is in
        absurd (omega (arith, power, least, few))

gap_is : (lo hi : ℤ) → lo ≤ℤ hi → unsigned_abs (hi -ℤ lo) ≡ int_gap lo hi
gap_is (pos a) (pos b) order = omega (arith, ints, order)
gap_is (pos a) (negsuc b) order = omega (arith, ints, order)
gap_is (negsuc a) (pos b) order = omega (arith, ints, order)
gap_is (negsuc a) (negsuc b) order = omega (arith, ints, order)

gap_few : (lo hi : ℤ) → unsigned_abs lo ≤ 2 ^ 40 → unsigned_abs hi ≤ 2 ^ 40 → unsigned_abs (hi -ℤ lo) ≤ 2 ^ 41
gap_few lo hi one two = omega (arith, ints, one, two)

same_or_less : (lo hi : ℤ) → lo ≤ℤ hi → (lo ≡ hi) ⊎ (lo <ℤ hi)
same_or_less lo hi order = grind (arith, ints)

-- what `bits` gives is how many binary digits there are
pub bits_are : (lo hi : ℤ) (b : ℕ) → lo ≤ℤ hi → unsigned_abs lo ≤ 2 ^ 40 → unsigned_abs hi ≤ 2 ^ 40 → (lo ≡ hi → b ≡ 0) → unsigned_abs (hi -ℤ lo) < 2 ^ b
    → (lo <ℤ hi → 2 ^ b ≤ 2 * unsigned_abs (hi -ℤ lo)) → (b ≡ binary_digits (int_gap lo hi)) × (b ≤ 64)
bits_are lo hi b order one two none enough least = by_cases (same_or_less lo hi order)
  where
    by_cases : (lo ≡ hi) ⊎ (lo <ℤ hi) → (b ≡ binary_digits (int_gap lo hi)) × (b ≤ 64)
    by_cases (inl is) =
        let zero_is : b ≡ 0 = none is in
        let few : b ≤ 64 = omega (arith, zero_is) in
        (digits_are (unsigned_abs (hi -ℤ lo)) b enough (λ some. absurd (omega (arith, some, zero_is))) few ∙ ap binary_digits (gap_is lo hi order), few)
    by_cases (inr is) =
        let few : b ≤ 64 = digits_few (unsigned_abs (hi -ℤ lo)) b (least is) (gap_few lo hi one two) in
        (digits_are (unsigned_abs (hi -ℤ lo)) b enough (λ some. least is) few ∙ ap binary_digits (gap_is lo hi order), few)

-- the bits of a decision, as the code finds them
pub record AreBits (d : Decision) (b : ℕ) : Type 0 where
  pub none : d.lo ≡ d.hi → b ≡ 0
  pub enough : unsigned_abs (d.hi -ℤ d.lo) < 2 ^ b
  pub least : d.lo <ℤ d.hi → 2 ^ b ≤ 2 * unsigned_abs (d.hi -ℤ d.lo)

-- the bits of a decision of which the code read both ends
pub bits_read : (d : Decision) (lo hi : ℤ) (b : ℕ) → lo ≡ d.lo → hi ≡ d.hi → (lo ≡ hi → b ≡ 0) → unsigned_abs (hi -ℤ lo) < 2 ^ b
    → (lo <ℤ hi → 2 ^ b ≤ 2 * unsigned_abs (hi -ℤ lo)) → AreBits d b
bits_read d lo hi b low high none enough least =
    record {
      none = λ same. none (low ∙ (same ∙ sym high));
      enough = subst (λ z. unsigned_abs z < 2 ^ b) gap enough;
      least = λ less. subst (λ z. 2 ^ b ≤ 2 * unsigned_abs z) gap (least (subst (λ z. z <ℤ hi) (sym low) (subst (λ z. d.lo <ℤ z) (sym high) less)));
    }
  where
    gap : hi -ℤ lo ≡ d.hi -ℤ d.lo
    gap = λ i. high i -ℤ low i

found : (d : Decision) (b : ℕ) → IsBoundedDecision d → AreBits d b → (b ≡ binary_digits (int_gap d.lo d.hi)) × (b ≤ 64)
found d b bounded bits = bits_are d.lo d.hi b bounded.ordered bounded.least bounded.greatest bits.none bits.enough bits.least

pub bit_value : (stages : List Stage) (d : Decision) (b n : ℕ) → IsBoundedDecision d → AreBits d b → n ≡ cell_count stages d → b * n ≡ bit_count stages d
unfolding bit_count
bit_value stages d b n bounded bits is = λ i. (found d b bounded bits).0 i * is i

pub bit_few : (stages : List Stage) (d : Decision) (b n : ℕ) → IsBoundedDecision d → AreBits d b → n ≡ cell_count stages d → n < 2 ^ 32 → bit_count stages d ≤ 2 ^ 40
bit_few stages d b n bounded bits is few =
    let all : n ≤ 2 ^ 32 = omega (arith, few) in
    let most : b * n ≤ 64 * 2 ^ 32 = mul-le-mul (found d b bounded bits).1 all in
    omega (arith, most, bit_value stages d b n bounded bits is)
