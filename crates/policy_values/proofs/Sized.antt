-- Numbers of a size that constants have pass the test of that size.
use Rattle.std.proofs.Common.{◌≡◌, refl, ap, ℤ, ◌*ℤ◌, unsigned_abs, ◌^◌, Option, Some, None, option_and_then, if◌then◌else◌}
use Rattle.std.proofs.lemmas.Bool.{le-leb}
use Rattle.sopl_ast.specs.declared.operators.MulOp.TheVariants.{Times}
use Rattle.sopl_ast.specs.Constants.{within}
use Rattle.sopl_ast.specs.Numbers.{applied, both_of}
use Rattle.unfold_laws.specs.Passing.{IsConstant}
use Rattle.policy_values.specs.Safe.{HasConstantSize}

-- a number of such a size is within
pub within_is : (z : ℤ) → IsConstant z → within z ≡ Some z
within_is z small = ap (λ (b : _). if b then Some z else None) (le-leb (unsigned_abs z) (2 ^ 40) small)

-- so is what is there
pub sized_is : (worth : Option ℤ) → HasConstantSize worth → option_and_then within worth ≡ worth
sized_is None small = refl
sized_is (Some z) small = within_is z small

-- the product of two numbers that are there
pub product_is : (x y : ℤ) → HasConstantSize (both_of ◌*ℤ◌ (Some x) (Some y)) → option_and_then within (applied Times x y) ≡ both_of ◌*ℤ◌ (Some x) (Some y)
product_is x y small = within_is (x *ℤ y) small

pub ruleset sized = (within_is, sized_is, product_is)
