use Rattle.std.proofs.Common.{◌≡◌, drop}
use Rattle.sopl_ast.specs.Known.{bound_value}
use Rattle.unfold_constants.specs.Here.{bindings_in}
use Rattle.unfold_constants.proofs.scopes.bound_value_of.Given as goal

abbrev pub invariant-bound : goal.invariant-bound
invariant-bound l = bound_value l.name l.index (bindings_in (drop l.place l.bound)) ≡ bound_value l.name l.index (bindings_in (drop l.start l.bound))
