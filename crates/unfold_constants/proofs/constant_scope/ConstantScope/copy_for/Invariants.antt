use Rattle.std.proofs.Common.{◌≡◌, drop}
use Rattle.unfold_constants.specs.Here.{known_in}
use Rattle.unfold_constants.proofs.Copying.{all_bound}
use Rattle.unfold_constants.proofs.constant_scope.ConstantScope.copy_for.Given as goal

abbrev pub invariant-bound : goal.invariant-bound
invariant-bound l = all_bound (known_in l.copy) (drop l.binding-index l.bound) ≡ known_in l.self
