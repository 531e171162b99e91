-- Laws that crates above share.
use Rattle.std.proofs.Common.{ℕ, arith}
use Rattle.std.proofs.lemmas.Int.{ints}
use Rattle.sopl_base.proofs.Sizes.{sized}
use Rattle.term_language.proofs.Bounds.{Bounds, small}
use Rattle.term_language.specs.Ends.{Ends}
use Rattle.term_language.specs.Laws.{Within}

pub bounds_within : (a c : Ends) (n : ℕ) → Within a c → Bounds c n → Bounds a n
bounds_within a c n within bounds =
    let low = small c.low n bounds.low in
    let high = small c.high n bounds.high in
    record {
      low = sized a.low n (omega (arith, ints, low.0, within.from_low)) (omega (arith, ints, high.1, within.to_high, within.ordered));
      high = sized a.high n (omega (arith, ints, low.0, within.from_low, within.ordered)) (omega (arith, ints, high.1, within.to_high));
    }
