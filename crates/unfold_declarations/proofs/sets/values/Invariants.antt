use Rattle.std.proofs.Common.{◌≡◌, [], drop}
use Rattle.sopl_ast.specs.Lists.{trees}
use Rattle.unfold_constants.specs.Here.{known_in}
use Rattle.unfold_declarations.specs.Declaring as spec
use Rattle.unfold_declarations.proofs.sets.values.Given as goal

abbrev pub invariant-elements : goal.invariant-elements
invariant-elements l =
    spec.elements (known_in l.known) l.set.keys (trees (drop l.element-index l.elements)) l.count.counted
    ≡ spec.elements (known_in l.known) [] (trees l.elements) l.fn.count.counted
