use Rattle.std.proofs.Common.{◌≡◌, ◌++◌, map, drop, List, ℤ}
use Rattle.term_math.specs.Kept.{sets_of}
use Rattle.sopl_term.proofs.tables.copied.Given as goal

abbrev pub invariant-loop-set : goal.invariant-loop-set
invariant-loop-set l = sets_of l.list.items ++ map (λ (set : List ℤ). set) (drop l.set-index l.sets) ≡ map (λ (set : List ℤ). set) l.sets
