use Rattle.std.proofs.Common.{◌≡◌, ◌<◌, ℕ, Some, slice_get}
use Rattle.sopl_ast.specs.Instances.{Hard}
use Rattle.policy_eval.specs.Reports.{IsHeld}
use Rattle.policy_eval.specs.Tried.{policy_of, posed}
use Rattle.policy_eval.proofs.trial.Trial.hards.Given as goal

abbrev pub invariant-hards : goal.invariant-hards
invariant-hards l = (j : ℕ) (g : Hard) → j < l.instance → slice_get l.self.hards.now j ≡ Some g → IsHeld (posed l.self) (policy_of l.self) g
