use Rattle.std.proofs.Common.{◌≡◌, ◌++◌, drop}
use Rattle.unfold_constants.specs.Here.{bindings_in}
use Rattle.unfold_constraints.proofs.place.env_of.Given as goal

abbrev pub invariant-bound : goal.invariant-bound
invariant-bound l = l.env ++ bindings_in (drop l.binding-index l.bound) ≡ bindings_in l.bound
