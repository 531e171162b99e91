-- The bits of what is accepted are within the limit.
use Rattle.std.proofs.Common.{◌≡◌, refl, sym, subst, arith, ℕ, ◌≤◌, ℤ, pos, int_le, Bool, true, false, [], ◌∷◌, Option, Some, None, if◌then◌else◌}
use Rattle.std.proofs.lemmas.Int.{ints}
use Rattle.std.specs.List.{sum_by}
use Rattle.sopl_base.specs.declared.fault.Excess.{Excess}
use Rattle.sopl_base.specs.declared.codes.TheConstants as codes
use Rattle.sopl_ast.specs.Instances.{Problem}
use Rattle.sopl_ast.specs.Limits.{Limits, bits_of, bit_excess, copy_excess, first_above, scenario_excess, size_excess, weight_excess}
use Rattle.sopl_ast.specs.Numbers.{or_else}
use Rattle.compile_laws.specs.RootLaws.{RootHasFewBits}
use Rattle.compile_laws.proofs.Counted.{bits_are_the_same}

-- where neither of two is there, the second is not
second_none : (first second : Option Excess) → or_else first second ≡ None → second ≡ None
second_none None second is = is
second_none (Some e) second is = absurd (cc)

-- a number that passes no limit is within it
passes : (test : Bool) (e : Excess) → (if test then None else Some e) ≡ None → test ≡ true
passes true e is = refl
passes false e is = absurd (cc)

within_limit : (code limit : ℕ) (n : ℤ) → first_above code limit (n ∷ []) ≡ None → int_le n (pos limit) ≡ true
within_limit code limit n is = passes (int_le n (pos limit)) _ is

few_bits : (limits : Limits) (problem : Problem) → size_excess limits problem ≡ None → sum_by (bits_of problem.stochastics) problem.decisions ≤ limits.bits
few_bits limits problem is =
    let behind_weights = second_none (weight_excess limits problem) (or_else (scenario_excess limits problem) (or_else (copy_excess limits problem) (bit_excess limits problem))) is in
    let behind_scenarios = second_none (scenario_excess limits problem) (or_else (copy_excess limits problem) (bit_excess limits problem)) behind_weights in
    let bits = second_none (copy_excess limits problem) (bit_excess limits problem) behind_scenarios in
    let within = within_limit codes.BITS limits.bits (pos (sum_by (bits_of problem.stochastics) problem.decisions)) bits in
    omega (arith, ints, within)

pub root_has_few_bits : RootHasFewBits
root_has_few_bits limits model problem accepted =
    subst (λ (n : ℕ). n ≤ limits.bits) (sym (bits_are_the_same problem)) (few_bits limits problem accepted.allowed)
