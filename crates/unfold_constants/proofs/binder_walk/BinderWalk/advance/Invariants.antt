-- What the next number leads to is the same whichever choices without a number have been closed.
use Rattle.std.proofs.Common.{◌≡◌, length}
use Rattle.unfold_constants.specs.Choosing.{advanced, give_name, leave_name, open_in}
use Rattle.unfold_constants.specs.Here.{known_in}
use Rattle.unfold_constants.proofs.binder_walk.BinderWalk.advance.Given as goal

abbrev pub invariant-open : goal.invariant-open
invariant-open l =
    advanced give_name leave_name (known_in l.self.here) (open_in l.self) ≡ advanced give_name leave_name (known_in l.initial.self.here) (open_in l.initial.self)

abbrev pub decreases-open : goal.decreases-open
decreases-open l = length l.self.open.items
