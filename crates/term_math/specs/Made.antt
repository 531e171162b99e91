-- What may be made of one number: a divisor and the ends of an interval can be computed with.
use Rattle.std.specs.Prelude.{◌≡◌, ◌≤◌, ℤ, pos, false}
use Rattle.std.specs.Int.RustNames.{unsigned_abs}
use Rattle.std.specs.Ordering.{int_eq}
use Rattle.sopl_base.specs.declared.limits.TheConstants as largest
use Rattle.term_language.specs.Ends.{Ends}
use Rattle.term_language.specs.declared.made.Operation.{Operation}
use Rattle.term_language.specs.declared.made.Operation.TheVariants.{Quotient, Remainder, Size}

-- a divisor is not 0, and has a size of at most 2^40
pub record IsDivisor (divisor : ℤ) : Type 0 where
  pub nonzero : int_eq divisor (pos 0) ≡ false
  pub small : unsigned_abs divisor ≤ largest.TERM_SIZE

abbrev pub IsPossible : Operation → Type 0
IsPossible (Quotient divisor) = IsDivisor divisor.number
IsPossible (Remainder divisor) = IsDivisor divisor.number
IsPossible Size = Unit {0}

-- both ends of an interval have a size of at most 2^40
pub record IsSmall (a : Ends) : Type 0 where
  pub low : unsigned_abs a.low ≤ largest.TERM_SIZE
  pub high : unsigned_abs a.high ≤ largest.TERM_SIZE
