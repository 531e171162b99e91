-- What a comparison tells.
use Rattle.std.proofs.Common.{arith, ◌≡◌, ◌↔◌, refl, sym, ◌∙◌, ℤ, ◌≤ℤ◌, int_le, Bool, true, false, true≢false, IsTrue}
use Rattle.std.proofs.lemmas.Int.{ints}

pub told_by : (r : Bool) (a b : ℤ) → (IsTrue r ↔ (a ≤ℤ b)) → r ≡ int_le a b
told_by true a b tells = let reached = tells.0 refl in grind (arith, ints)
told_by false a b tells = by_test (int_le a b) refl
  where
    no : ¬ (IsTrue false)
    no e = cc

    by_test : (t : Bool) → int_le a b ≡ t → false ≡ int_le a b
    by_test true is = let below : a ≤ℤ b = omega (arith, ints, is) in absurd (no (tells.1 below))
    by_test false is = sym is

-- a test that passes, and one that fails
pub reached_by : {B : Type 0} (r : Bool) (a b : ℤ) → r ≡ int_le a b → ((a ≤ℤ b) ↔ B) → r ≡ true → B
reached_by r a b is same met =
    let test : int_le a b ≡ true = sym is ∙ met in
    let below : a ≤ℤ b = omega (arith, ints, test) in
    same.0 below

pub reached_not : {B : Type 0} (r : Bool) (a b : ℤ) → r ≡ int_le a b → ((a ≤ℤ b) ↔ B) → r ≡ false → ¬ B
reached_not r a b is same failed held =
    let below : a ≤ℤ b = same.1 held in
    let test : int_le a b ≡ true = grind (arith, ints) in
    true≢false (sym test ∙ sym is ∙ failed)
