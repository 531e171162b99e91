use Rattle.std.proofs.Common.{◌≡◌, drop}
use Rattle.term_language.specs.Forms as rule
use Rattle.term_math.specs.Shown.{box_in, cells_of, ends_of}
use Rattle.term_math.proofs.views.BoxView.cells.Given as goal

abbrev pub invariant-loop-i : goal.invariant-loop-i
invariant-loop-i l = ends_of l.sum ≡ rule.cells_ends (box_in l.self) (cells_of (drop l.i l.cells))
