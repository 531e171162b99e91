-- What is computed of one cell of a comparison's sum has room.
use Rattle.std.proofs.Common.{◌≡◌, ◌+◌, ◌^◌, ℤ, pos, ◌-ℤ◌, ◌*ℤ◌, ◌≤ℤ◌, arith, subst, sym}
use Rattle.std.proofs.lemmas.Int.{ints}
use Rattle.sopl_base.specs.declared.reason.Side.{Side}
use Rattle.sopl_base.specs.declared.reason.Side.TheVariants.{Le, Ge}
use Rattle.term_language.specs.Ends as rule
use Rattle.term_language.proofs.Bounds.{Bounds, small, bounds_between, bounds_plus}
use Rattle.prop_shave.specs.Ends.{highest_at, lowest_at, highest, lowest}
use Rattle.term_math.specs.declared.ends.Ends.{Ends}
use Rattle.term_math.specs.Shown.{IsFit, ends_at, ends_of}
use Rattle.term_math.proofs.Fits.{fit}
use Rattle.prop_linear.specs.declared.turns.Turn.{Turn}
use Rattle.prop_linear.specs.Turns.{HasRoom, part_of}

-- so many values at an end lie within the interval
pub record LieWithin (lo hi x y : ℤ) : Type 0 where
  pub from_low : lo ≤ℤ x
  pub ordered : x ≤ℤ y
  pub to_high : y ≤ℤ hi

pub values_lie : (side : Side) (lo hi count : ℤ) → pos 1 ≤ℤ count → count ≤ℤ (hi -ℤ lo) → LieWithin lo hi (lowest_at side lo hi count) (highest_at side lo hi count)
values_lie Ge lo hi count some fewer = record { from_low = omega (arith, ints); ordered = omega (arith, ints, some); to_high = omega (arith, ints, fewer) }
values_lie Le lo hi count some fewer = record { from_low = omega (arith, ints, fewer); ordered = omega (arith, ints, some); to_high = omega (arith, ints) }

-- both products have room
each_bounds : (t : Turn) (count : ℤ) → HasRoom t → pos 1 ≤ℤ count → count ≤ℤ (t.end.hi -ℤ t.end.lo) → Bounds (ends_at t.k (rule.ends (lowest t.end count) (highest t.end count))) (2 ^ 42)
each_bounds t count room some fewer =
    let lie = values_lie t.end.side t.end.lo t.end.hi count some fewer in
    record {
      low = room.each (lowest t.end count) lie.from_low (omega (arith, ints, lie.ordered, lie.to_high));
      high = room.each (highest t.end count) (omega (arith, ints, lie.from_low, lie.ordered)) lie.to_high;
    }

values_fit : (t : Turn) (count : ℤ) → HasRoom t → pos 1 ≤ℤ count → count ≤ℤ (t.end.hi -ℤ t.end.lo) → IsFit (ends_at t.k (rule.ends (lowest t.end count) (highest t.end count)))
values_fit t count room some fewer =
    fit (ends_at t.k (rule.ends (lowest t.end count) (highest t.end count))) (2 ^ 42) (each_bounds t count room some fewer) (omega arith)

pub part_fits : (t : Turn) (count k : ℤ) (values : Ends) → HasRoom t → pos 1 ≤ℤ count → count ≤ℤ (t.end.hi -ℤ t.end.lo) → k ≡ t.k → ends_of values
    ≡ rule.ends (lowest t.end count) (highest t.end count) → IsFit (ends_at k (ends_of values))
part_fits t count k values room some fewer same is =
    subst (λ (z : ℤ). IsFit (ends_at z (ends_of values))) (sym same)
    (subst (λ (a : rule.Ends). IsFit (ends_at t.k a)) (sym is) (values_fit t count room some fewer))

-- and so has the sum
sum_bounds : (t : Turn) (count : ℤ) → HasRoom t → pos 1 ≤ℤ count → count ≤ℤ (t.end.hi -ℤ t.end.lo) → Bounds (rule.plus (ends_of t.others) (part_of t count)) (2 ^ 43 + 2 ^ 42)
sum_bounds t count room some fewer =
    let each = each_bounds t count room some fewer in
    bounds_plus (ends_of t.others) (part_of t count) (2 ^ 43) (2 ^ 42) (record { low = room.low; high = room.high })
    (bounds_between (t.k *ℤ lowest t.end count) (t.k *ℤ highest t.end count) (2 ^ 42) (small (t.k *ℤ lowest t.end count) (2 ^ 42) each.low) (small (t.k *ℤ highest t.end count) (2 ^ 42) each.high))

pub sum_fits : (t : Turn) (count k : ℤ) (values part : Ends) → HasRoom t → pos 1 ≤ℤ count → count ≤ℤ (t.end.hi -ℤ t.end.lo) → k ≡ t.k → ends_of values
    ≡ rule.ends (lowest t.end count) (highest t.end count) → ends_of part ≡ rule.scaled k (ends_of values) → IsFit (rule.plus (ends_of t.others) (ends_of part))
sum_fits t count k values part room some fewer same is scaled =
    let fits : IsFit (rule.plus (ends_of t.others) (part_of t count)) = fit (rule.plus (ends_of t.others) (part_of t count)) (2 ^ 43 + 2 ^ 42) (sum_bounds t count room some fewer) (omega arith) in
    subst (λ (a : rule.Ends). IsFit (rule.plus (ends_of t.others) a)) (sym scaled)
    (subst (λ (z : ℤ). IsFit (rule.plus (ends_of t.others) (rule.scaled z (ends_of values)))) (sym same)
    (subst (λ (a : rule.Ends). IsFit (rule.plus (ends_of t.others) (rule.scaled t.k a))) (sym is) fits))
