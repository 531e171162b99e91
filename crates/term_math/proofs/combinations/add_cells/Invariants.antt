use Rattle.std.proofs.Common.{◌≡◌, drop}
use Rattle.term_language.specs.Forms as rule
use Rattle.term_math.specs.Shown.{cells_of}
use Rattle.term_math.specs.Sums.{nonzero}
use Rattle.term_math.proofs.combinations.add_cells.Given as goal

abbrev pub invariant-loop-i : goal.invariant-loop-i
invariant-loop-i l = nonzero l.cells.entries ≡ rule.combined l.factor.value (nonzero l.initial.cells.entries) (cells_of (drop l.i l.more))
