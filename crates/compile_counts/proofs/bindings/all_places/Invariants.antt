-- The places that are left are yet to be entered; each turn enters one.
use Rattle.std.proofs.Common.{map}
use Rattle.sopl_ast.specs.Constants.{all_bindings}
use Rattle.sopl_ast.specs.Lists.{binders}
use Rattle.unfold_constants.specs.Choosing.{open_in}
use Rattle.unfold_constants.specs.Here.{known_in}
use Rattle.compile_counts.specs.Entering.{waiting}
use Rattle.compile_counts.proofs.Entering.{work, IsLeft}
use Rattle.compile_counts.proofs.bindings.all_places.Given as goal

abbrev pub invariant-choices : goal.invariant-choices
invariant-choices l =
    IsLeft l.fn.whole (waiting l.fn.over (known_in l.choices.here) (open_in l.choices)) (map known_in l.found.items) (all_bindings (known_in l.fn.known) (binders l.fn.over))

abbrev pub decreases-choices : goal.decreases-choices
decreases-choices l = work (waiting l.fn.over (known_in l.choices.here) (open_in l.choices))
