-- Whether the last line is right, by what is kept of the rows.
use Rattle.std.specs.Prelude.{◌≡◌, ◌⊎◌, ℤ, true, false, Option, None, Some}
use Rattle.sopl_base.specs.declared.direction.Direction.{Direction}
use Rattle.sopl_base.specs.Better.{IsBetter}
use Rattle.log_rows.specs.declared.rows.Footer.{Footer}
use Rattle.log_rows.specs.declared.rows.Footer.TheVariants.{Optimal, Infeasible, Bounded}
use Rattle.log_check.specs.declared.tally.Tally.{Tally}

-- a bound alone is right: it is the better end over some node that is not finished, and none is better
pub record HoldsNone (tally : Tally) : Type 0 where
  pub touched : tally.touched ≡ true
  pub passed : tally.passed ≡ false

-- a value and a bound are right: some point has the value, the bound is the value or such an end, the value is not better than the bound,
-- and no such end is
pub record HoldsFound (direction : Direction) (v bound : ℤ) (tally : Tally) : Type 0 where
  pub reached : tally.reached ≡ true
  pub one : (bound ≡ v) ⊎ (tally.touched ≡ true)
  pub value : ¬ IsBetter direction v bound
  pub passed : tally.passed ≡ false

-- a bound is right, with a value where one is claimed
abbrev pub HoldsBound : Direction → Option ℤ → ℤ → Tally → Type 0
HoldsBound direction None bound tally = HoldsNone tally
HoldsBound direction (Some v) bound tally = HoldsFound direction v bound tally

-- a claim is right
abbrev pub FooterHolds : Direction → Footer → Tally → Type 0
FooterHolds direction (Optimal v) tally = tally.reached ≡ true
FooterHolds direction Infeasible tally = Unit {0}
FooterHolds direction (Bounded found bound) tally = HoldsBound direction found bound tally
