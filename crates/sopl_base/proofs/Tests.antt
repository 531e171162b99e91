-- Tests of numbers: what they say, and what makes them say so.
use Rattle.std.proofs.Common.{ℤ, ◌≡◌, arith, int_le, true, ◌≤ℤ◌, pos, ◌<ℤ◌, false, int_lt, ℕ, ◌≤◌, nat_lt, ◌<◌}
use Rattle.std.proofs.lemmas.Bool.Decides.{nat_tests}
use Rattle.std.proofs.lemmas.Int.{ints}
use Rattle.std.specs.Ordering.{int_eq}

pub equal_test : (z : ℤ) → int_eq z z ≡ true
equal_test z = grind (arith, ints)

pub equal_tested : (x y : ℤ) → int_eq x y ≡ true → x ≡ y
equal_tested x y same = grind (arith, ints)

pub equal_turned : (x y : ℤ) → int_eq x y ≡ int_eq y x
equal_turned x y = grind (arith, ints)

pub le_test : (y z : ℤ) → y ≤ℤ z → int_le y z ≡ true
le_test y z order = grind (arith, ints)

pub le_tested : (n limit : ℤ) → int_le n limit ≡ true → n ≤ℤ limit
le_tested n limit test = omega (arith, ints, test)

pub le_untest : (a b : ℤ) → b <ℤ a → int_le a b ≡ false
le_untest a b is = grind (arith, ints)

pub lt_test : (y z : ℤ) → y <ℤ z → int_lt y z ≡ true
lt_test y z order = grind (arith, ints)

pub lt_tested : (y z : ℤ) → int_lt y z ≡ true → y <ℤ z
lt_tested y z tested = grind (arith, ints)

pub lt_untest : (x y : ℤ) → y ≤ℤ x → int_lt x y ≡ false
lt_untest x y order = grind (arith, ints)

pub lt_untested : (y z : ℤ) → int_lt y z ≡ false → z ≤ℤ y
lt_untested y z untested = grind (arith, ints)

pub nat_test : (m n : ℕ) → m < n → nat_lt m n ≡ true
nat_test m n below = grind (arith, nat_tests)

pub nat_tested : (a b : ℕ) → nat_lt a b ≡ true → a < b
nat_tested a b before = grind (arith, nat_tests)

pub nat_untest : (m n : ℕ) → n ≤ m → nat_lt m n ≡ false
nat_untest m n order = grind (arith, nat_tests)

pub positive_test : (w : ℤ) → pos 1 ≤ℤ w → int_le (pos 1) w ≡ true
positive_test w most = grind (arith, ints)

pub positive_tested : (w : ℤ) → int_le (pos 1) w ≡ true → pos 1 ≤ℤ w
positive_tested w test = omega (arith, ints, test)
