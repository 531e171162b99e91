-- The numbers from one end to another, one by one.
use Rattle.std.proofs.Common.{◌≡◌, ap, suc, ◌+◌, ◌-◌, ℤ, pos, negsuc, ◌+ℤ◌, ◌≤ℤ◌, ◌<ℤ◌, [], ◌∷◌, arith}
use Rattle.std.proofs.lemmas.Int.{ints}
use Rattle.std.specs.Int.{int_gap}
use borrow.Author.Differences.{up, down}
use Rattle.sopl_ast.specs.Numbers.{up_to, counted_up}

-- how far one number is above another
gap_is : (x y : ℤ) → int_gap x y ≡ (up y + down x) - (up x + down y)
gap_is (pos a) (pos b) = omega arith
gap_is (pos a) (negsuc b) = omega arith
gap_is (negsuc a) (pos b) = omega arith
gap_is (negsuc a) (negsuc b) = omega arith

-- the first of them, and the others
pub up_to_more : (x hi : ℤ) → x ≤ℤ hi → up_to x hi ≡ x ∷ up_to (x +ℤ pos 1) hi
up_to_more x hi below =
    let gap : int_gap x (hi +ℤ pos 1) ≡ suc (int_gap (x +ℤ pos 1) (hi +ℤ pos 1)) =
    omega (arith, ints, below, gap_is x (hi +ℤ pos 1), gap_is (x +ℤ pos 1) (hi +ℤ pos 1)) in
    ap (λ n. counted_up x n) gap

-- none is left
pub up_to_none : (x hi : ℤ) → hi <ℤ x → up_to x hi ≡ []
up_to_none x hi above =
    let gap : int_gap x (hi +ℤ pos 1) ≡ 0 = omega (arith, ints, above, gap_is x (hi +ℤ pos 1)) in
    ap (λ n. counted_up x n) gap

pub ruleset upward = (up_to_more, up_to_none)
