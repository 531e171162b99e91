use Rattle.prop_linear.proofs.Topping.{IsMended}
use Rattle.prop_linear.proofs.maxima.Maxima.set.Given as goal

abbrev pub invariant-levels : goal.invariant-levels
invariant-levels l = IsMended l.fn.self l.place l.number l.self l.node

abbrev pub decreases-levels : goal.decreases-levels
decreases-levels l = l.node
