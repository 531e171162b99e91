-- The roots of the tests lie within 2^40.
use Rattle.std.proofs.Common.{◌≡◌, List, [], ◌∷◌, ◌++◌, subst, sym}
use Rattle.std.specs.List.{AllByRecursion}
use Rattle.sopl_base.specs.declared.interval.Interval.{Interval}
use Rattle.sopl_term.specs.Built.{IsNear}

pub near_pushed : (before after : List Interval) (x : Interval) → AllByRecursion IsNear before → IsNear x → after ≡ before ++ x ∷ [] → AllByRecursion IsNear after
near_pushed before after x all here is = subst (AllByRecursion IsNear) (sym is) (more before all)
  where
    more : (xs : List Interval) → AllByRecursion IsNear xs → AllByRecursion IsNear (xs ++ x ∷ [])
    more [] all = (here, tt)
    more (y ∷ ys) all = (all.0, more ys all.1)

pub none_near : (xs : List Interval) → xs ≡ [] → AllByRecursion IsNear xs
none_near xs is = subst (AllByRecursion IsNear) (sym is) tt
