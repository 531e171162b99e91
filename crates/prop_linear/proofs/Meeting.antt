-- Where a comparison is true all over a box, it is false over no part of it.
use Rattle.std.proofs.Common.{◌≡◌, ℕ, pos, true, false, get_or, arith}
use Rattle.std.specs.List.{All}
use Rattle.std.proofs.lemmas.Int.{ints}
use Rattle.sopl_base.proofs.Tests.{le_tested, le_untest, lt_tested, lt_untest}
use Rattle.sopl_base.specs.declared.comparison.CmpOp.{CmpOp}
use Rattle.sopl_base.specs.declared.comparison.CmpOp.TheVariants.{Eq, Ne, Lt, Le, Gt, Ge}
use Rattle.box_problem.specs.Box.{Box, Inside, high, low, with_high, with_low}
use Rattle.box_problem.proofs.Cuts.{high_lowered, low_raised}
use Rattle.term_language.specs.Ends as rule
use Rattle.term_language.specs.Laws.{Within}
use Rattle.term_language.specs.Marks.{all_compare, none_compares}
use Rattle.term_language.proofs.Narrowing.{within_cells, within_exactly, within_plus}
use Rattle.term_math.specs.declared.forms.Coefficient.{Coefficient}
use Rattle.term_math.specs.Shown.{cells_of}
use Rattle.prop_shave.specs.Removals.{IsOpenAt}
use Rattle.prop_linear.specs.declared.balances.Difference.{Difference}
use Rattle.prop_linear.specs.Balances.{IsLight, box_of, closes, meets, sum_over}

no_longer : (op : CmpOp) (part whole : rule.Ends) → Within part whole → all_compare op whole ≡ true → none_compares op part ≡ false
no_longer Eq part whole within met = grind (arith, ints, met, within.ordered, within.from_low, within.to_high)
no_longer Ne part whole within met = grind (arith, ints, met, within.ordered, within.from_low, within.to_high)
no_longer Lt part whole within met =
    let tested = lt_tested whole.high (pos 0) met in
    le_untest (pos 0) part.low (omega (arith, ints, tested, within.ordered, within.to_high))
no_longer Le part whole within met =
    let tested = le_tested whole.high (pos 0) met in
    lt_untest (pos 0) part.low (omega (arith, ints, tested, within.ordered, within.to_high))
no_longer Gt part whole within met =
    let tested = lt_tested (pos 0) whole.low met in
    le_untest part.high (pos 0) (omega (arith, ints, tested, within.ordered, within.from_low))
no_longer Ge part whole within met =
    let tested = le_tested (pos 0) whole.low met in
    lt_untest part.high (pos 0) (omega (arith, ints, tested, within.ordered, within.from_low))

met_open : (d : Difference) (c : Box) → IsLight d → Inside c (box_of d) → meets d (box_of d) ≡ true → closes d c ≡ false
met_open d c light inside met =
    no_longer d.op (sum_over d c) (sum_over d (box_of d))
    (within_plus (rule.exactly d.constant) _ (rule.exactly d.constant) _ (within_exactly d.constant) (within_cells c (box_of d) (cells_of d.parts.now) light.is_box inside))
    met

pub met_cells : (d : Difference) → IsLight d → meets d (box_of d) ≡ true → All (λ (c : Coefficient). IsOpenAt (closes d) (box_of d) c.cell) d.parts.now
met_cells d light met = λ k e exists. each (get_or d.parts.now k e).cell
  where
    each : (cell : ℕ) → IsOpenAt (closes d) (box_of d) cell
    each cell =
        let b = box_of d in
        record {
          at_low = λ exists.
              met_open d (with_high b cell (low b cell)) light (high_lowered b cell (low b cell) light.is_box exists (omega (arith, ints)) (light.is_box.ordered cell exists)) met;
          at_high = λ exists.
              met_open d (with_low b cell (high b cell)) light (low_raised b cell (high b cell) light.is_box exists (light.is_box.ordered cell exists) (omega (arith, ints))) met;
        }
