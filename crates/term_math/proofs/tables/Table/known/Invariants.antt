use Rattle.std.proofs.Common.{◌≡◌, drop, length}
use Rattle.term_language.specs.Arrays.{indices, item_at, item_in, paired}
use Rattle.term_math.specs.Kept.{items_of, sets_of, table_of}
use Rattle.term_math.proofs.Distinct.{Differ}
use Rattle.term_math.proofs.tables.Table.known.Given as goal

abbrev pub invariant-loop-set : goal.invariant-loop-set
invariant-loop-set l =
    (item_at (table_of l.self) l.index ≡ item_in (paired (indices (sets_of (drop l.set-index l.self.sets.items))) (items_of l.elements)) l.rest)
    × (length l.elements ≡ length (indices (sets_of (drop l.set-index l.self.sets.items))))
    × Differ (indices (sets_of (drop l.set-index l.self.sets.items)))
