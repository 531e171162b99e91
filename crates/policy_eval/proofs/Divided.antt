-- Quotients and remainders by divisors that are there and are not 0.
use Rattle.std.proofs.Common.{◌≡◌, subst, ℤ, pos, false, Option, Some, if◌then◌else◌}
use Rattle.std.specs.Ordering.{int_eq}
use Rattle.sopl_ast.specs.Constants as constant
use Rattle.sopl_ast.specs.Known.{Known}
use Rattle.sopl_ast.specs.Tree.{Tree, place_of}
use Rattle.sopl_ast.specs.UnfoldEvents.{divisor_events}
use Rattle.unfold_laws.specs.Passing.{NothingFails}
use Rattle.unfold_laws.proofs.Passing.{value_given}
use Rattle.compile_counts.proofs.Passed.{divisor_nonzero, divisor_part}
use Rattle.term_language.specs.declared.made.Operation.{Operation}
use Rattle.term_language.specs.declared.made.Divisor.{Divisor}
use Rattle.term_language.specs.Terms as c
use Rattle.compile_laws.specs.Instances.{divided, undefined}

-- what is divided by a number that is there and is not 0 is so
pub from_divided : (P : c.Term → Type 0) (make : Divisor → Operation) (b : c.Term) (z : ℤ) → int_eq z (pos 0) ≡ false → (o : Option ℤ) → o ≡ Some z → P (divided make b o)
    → P (c.Made (make (record { number = z })) b)
from_divided P make b z nonzero o there holds =
    subst (λ t. P (if t then undefined else c.Made (make (record { number = z })) b)) nonzero (subst (λ x. P (divided make b x)) there holds)

-- a divisor that passes is there and is not 0
pub record IsDivisor (known : Known) (e : Tree) : Type 0 where
  pub number : ℤ
  pub is : constant.value known e ≡ Some number
  pub nonzero : int_eq number (pos 0) ≡ false

pub divisor_is : (known : Known) (e : Tree) → NothingFails (divisor_events known e) → IsDivisor known e
divisor_is known e passes =
    let there = value_given known (place_of e) e (divisor_part known e passes) in
    record { number = there.0; is = there.1; nonzero = divisor_nonzero known e there.0 passes there.1 }
