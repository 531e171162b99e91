use Rattle.std.proofs.Common.{◌≡◌, [], drop}
use Rattle.unfold_constants.specs.Here.{known_in}
use Rattle.unfold_variables.specs.Listing as spec
use Rattle.unfold_variables.proofs.distributions.outcomes.Given as goal

abbrev pub invariant-dist : goal.invariant-dist
invariant-dist l =
    spec.outcomes (known_in l.known) l.earlier.keys l.found (drop l.pair-index l.dist) l.count.counted
    ≡ spec.outcomes (known_in l.known) [] [] l.dist l.fn.count.counted
