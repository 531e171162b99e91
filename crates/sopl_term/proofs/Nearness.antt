-- The ends of a root box lie within 2 ^ 40.
use Rattle.std.proofs.Common.{◌≡◌, ◌∙◌, ℕ, zero, suc, ◌<◌, List, [], ◌∷◌, length, arith, ap, sym, subst}
use Rattle.std.specs.List.{AllByRecursion}
use Rattle.std.proofs.lemmas.Int.{ints}
use Rattle.std.proofs.lemmas.List.{length-map}
use Rattle.sopl_base.specs.declared.interval.Interval.{Interval}
use Rattle.box_problem.specs.Box.{Box, box_of, high, low}
use Rattle.box_problem.specs.Near.{IsNearBox}
use Rattle.box_problem.specs.Near as ends
use Rattle.sopl_term.specs.Built.{IsNear}

lows_near : (roots : List Interval) → AllByRecursion IsNear roots → (cell : ℕ) → cell < length (box_of roots).lows → ends.IsNear (low (box_of roots) cell)
lows_near [] near cell exists = absurd (omega (arith, exists))
lows_near (root ∷ roots) near zero exists = record { above = omega (arith, ints, near.0.low); below = omega (arith, ints, root.ordered, near.0.high) }
lows_near (root ∷ roots) near (suc cell) exists = lows_near roots near.1 cell (omega (arith, exists))

highs_near : (roots : List Interval) → AllByRecursion IsNear roots → (cell : ℕ) → cell < length (box_of roots).lows → ends.IsNear (high (box_of roots) cell)
highs_near [] near cell exists = absurd (omega (arith, exists))
highs_near (root ∷ roots) near zero exists = record { above = omega (arith, ints, root.ordered, near.0.low); below = omega (arith, ints, near.0.high) }
highs_near (root ∷ roots) near (suc cell) exists = highs_near roots near.1 cell (omega (arith, exists))

pub root_near : (roots : List Interval) (b : Box) → AllByRecursion IsNear roots → b ≡ box_of roots → IsNearBox b
root_near roots b near is = subst IsNearBox (sym is) (record { lows = lows_near roots near; highs = highs_near roots near })

pub root_counted : (roots : List Interval) (b : Box) → b ≡ box_of roots → length roots ≡ length b.lows
root_counted roots b is = sym (ap (λ (box : Box). length box.lows) is ∙ length-map roots (λ (i : Interval). i.lo))
