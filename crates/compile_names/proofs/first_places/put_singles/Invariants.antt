-- The numbers of the sets so far stand behind others; each turn passes over one set.
use Rattle.std.proofs.Common.{length}
use Rattle.compile_names.proofs.Singles.{AreSingles}
use Rattle.compile_names.proofs.first_places.put_singles.Given as goal

abbrev pub invariant-singles : goal.invariant-singles
invariant-singles l = AreSingles l.fn.index.items l.sets l.index.items l.left

abbrev pub decreases-singles : goal.decreases-singles
decreases-singles l = length l.left
