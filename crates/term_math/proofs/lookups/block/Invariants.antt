use Rattle.std.proofs.Common.{◌≡◌, ◌*◌, drop, length}
use Rattle.term_math.specs.Kept.{block}
use Rattle.term_math.proofs.lookups.block.Given as goal

abbrev pub invariant-loop-here : goal.invariant-loop-here
invariant-loop-here l =
    (block l.number l.set l.width l.elements ≡ block l.number (drop l.here-index l.set) l.width l.left)
    × (length l.left ≡ length (drop l.here-index l.set) * l.width)
