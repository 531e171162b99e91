-- Boxes that agree on the cells that the propagator of a linear comparison watches.
use Rattle.std.proofs.Common.{ℕ, ℤ, List, get_or, ap, ap₂, ◌∙◌}
use Rattle.std.specs.List.{Contains}
use Rattle.std.proofs.lemmas.List.{get_or_default}
use Rattle.box_problem.specs.Box.{Box, Inside}
use Rattle.term_language.specs.Ends as rule
use Rattle.term_math.specs.declared.forms.Coefficient.{Coefficient}
use Rattle.term_program.specs.declared.program.Program.{Program}
use Rattle.term_program.specs.Stated.{box_problem_of}
use Rattle.prop_core.specs.Alike.{rested_alike}
use Rattle.prop_core.specs.Watches.{AgreeOnCells}
use Rattle.prop_linear.specs.declared.comparisons.Linear.{Linear}
use Rattle.prop_linear.specs.declared.kept_sum.KeptSum.{KeptSum}
use Rattle.prop_linear.specs.KeptSums.{SumsUp}
use Rattle.prop_linear.specs.Kinds.{Fits, InStep, reasons_of}

-- what is kept sums up the comparison over both or over neither
sums_alike : (told : List ℕ) (constant : ℤ) (parts : List Coefficient) (cells : List ℕ) (b c : Box) (k : KeptSum)
    → ((part : Coefficient) → Contains parts part → Contains cells part.cell) → AgreeOnCells cells b c → SumsUp told constant parts b k
    → SumsUp told constant parts c k
sums_alike told constant parts cells b c k watched agree sums = record {
  whole = sums.whole;
  each = λ place part e below fresh.
      let own = get_or parts place part in
      let seen = watched own (place, below, get_or_default parts place own part below) in
      sums.each place part e below fresh ∙ ap (rule.scaled own.k) (ap₂ rule.ends (agree.lows own.cell seen) (agree.highs own.cell seen));
  widths = sums.widths;
}

pub linear_steps : (p : Linear) (program : Program) (b c : Box) → Fits p program → Inside b (box_problem_of program).root
    → Inside c (box_problem_of program).root → AgreeOnCells p.constraint.cells.items b c → InStep p program b → InStep p program c
linear_steps p program b c fits b_in c_in agree step = record {
  sum = λ known.
      sums_alike p.sum.told.items p.constraint.constant p.constraint.parts.items p.constraint.cells.items b c p.sum fits.watched.each agree
      (step.sum known);
  rested =
      rested_alike (box_problem_of program) (reasons_of p) p.constraint.cells.items p.rested b c fits.looks b_in c_in agree step.rested;
}
