-- Where no part of a sum is wide enough, the comparison is open with each cell at either end.
use Rattle.std.proofs.Common.{◌≡◌, ℕ, ◌<◌, ◌≤◌, ℤ, pos, ◌+ℤ◌, ◌-ℤ◌, ◌≤ℤ◌, ◌<ℤ◌, unsigned_abs, int_le, Bool, true, false, ◌||◌, ◌&&◌, List, length, get_or, Some, slice_get, arith, refl}
use Rattle.std.proofs.Common.{ap, sym, ◌∙◌}
use Rattle.std.specs.List.{All, Contains}
use Rattle.std.specs.Ordering.{int_eq}
use Rattle.std.proofs.lemmas.Int.{ints, clamps}
use Rattle.std.proofs.lemmas.List.{get_or_default}
use Rattle.std.proofs.lemmas.Option.{get_or_from_slice_get, slice_get_within}
use Rattle.sopl_base.proofs.Tests.{le_untest, lt_untest, lt_untested}
use Rattle.sopl_base.specs.declared.comparison.CmpOp.{CmpOp}
use Rattle.sopl_base.specs.declared.comparison.CmpOp.TheVariants.{Eq, Ne, Lt, Le, Gt, Ge}
use Rattle.box_problem.specs.Box.{high, low}
use Rattle.box_problem.proofs.Boxes.{part_of_itself}
use Rattle.term_language.specs.Ends as rule
use Rattle.term_language.specs.Laws.{Within}
use Rattle.term_language.specs.Marks.{none_compares}
use Rattle.term_language.proofs.Narrowing.{within_cells, within_exactly, within_plus, within_scaled}
use Rattle.term_math.specs.declared.ends.Ends.{Ends}
use Rattle.term_math.specs.declared.forms.Coefficient.{Coefficient}
use Rattle.term_math.specs.Shown.{cells_of, ends_of}
use Rattle.term_program.specs.Programs.{with_interval}
use Rattle.prop_shave.specs.Removals.{IsOpenAt}
use Rattle.prop_shave.proofs.Parts.{part_high, part_low}
use Rattle.prop_linear.specs.declared.balances.Balance.{Balance}
use Rattle.prop_linear.specs.declared.balances.Difference.{Difference}
use Rattle.prop_linear.specs.declared.maxima.Maxima.{Maxima}
use Rattle.prop_linear.specs.Balances.{IsLight, IsOthers, IsSummed, box_of, closes, ends_width, least_width, multiple_over, sum_over}
use Rattle.prop_linear.specs.KeptSums.{AreWidths}
use Rattle.prop_linear.specs.Maxima.{kept_number}
use Rattle.prop_linear.proofs.Summing.{sum_moves}
use Rattle.prop_linear.proofs.Tells.{same_compares}

-- a part at a place is one of all
pub part_there : (parts : List Coefficient) (place : ℕ) (c : Coefficient) → slice_get parts place ≡ Some c → Contains parts c
part_there parts place c at = (place, slice_get_within parts place c at, get_or_from_slice_get parts place c c at)

-- tests of numbers
le_untested : (x y : ℤ) → int_le x y ≡ false → y <ℤ x
le_untested x y untested = grind (arith, ints)

neither : (p q : Bool) → (p || q) ≡ false → (p ≡ false) × (q ≡ false)
neither false false is = (refl, refl)
neither false true is = absurd (cc)
neither true q is = absurd (cc)

none_true : (p q : Bool) → p ≡ false → q ≡ false → (p || q) ≡ false
none_true p q first second = rw (first, second) refl

not_both_zero : (x y : ℤ) → x <ℤ y → (int_eq x (pos 0) && int_eq y (pos 0)) ≡ false
not_both_zero x y less = grind (arith, ints)

-- with one value of a part the lower end of the sum is so much more, and the upper end is less by the rest of the part's width
pub opened : (op : CmpOp) (a : rule.Ends) (w : ℕ) (more : ℤ) → a.low ≤ℤ a.high → none_compares op a ≡ false → w < least_width op a → pos 0 ≤ℤ more → more ≤ℤ pos w
    → none_compares op (rule.ends (a.low +ℤ more) (a.high -ℤ (pos w -ℤ more))) ≡ false
opened Eq a w more ordered whole narrow from to =
    let both = neither _ _ whole in
    let low_in = lt_untested (pos 0) a.low both.0 in
    let high_in = lt_untested a.high (pos 0) both.1 in
    none_true _ _
    (lt_untest (pos 0) (a.low +ℤ more) (omega (arith, ints, low_in, narrow, to)))
    (lt_untest (a.high -ℤ (pos w -ℤ more)) (pos 0) (omega (arith, ints, high_in, narrow, from)))
opened Ne a w more ordered whole narrow from to =
    not_both_zero (a.low +ℤ more) (a.high -ℤ (pos w -ℤ more)) (omega (arith, ints, ordered, narrow))
opened Lt a w more ordered whole narrow from to =
    let below = le_untested (pos 0) a.low whole in
    le_untest (pos 0) (a.low +ℤ more) (omega (arith, ints, below, narrow, to))
opened Le a w more ordered whole narrow from to =
    let below = lt_untested (pos 0) a.low whole in
    lt_untest (pos 0) (a.low +ℤ more) (omega (arith, ints, below, narrow, to))
opened Gt a w more ordered whole narrow from to =
    let above = le_untested a.high (pos 0) whole in
    le_untest (a.high -ℤ (pos w -ℤ more)) (pos 0) (omega (arith, ints, above, narrow, from))
opened Ge a w more ordered whole narrow from to =
    let above = lt_untested a.high (pos 0) whole in
    lt_untest (a.high -ℤ (pos w -ℤ more)) (pos 0) (omega (arith, ints, above, narrow, from))

-- the ends of the whole sum are in order
sum_within : (d : Difference) → IsLight d → Within (sum_over d (box_of d)) (sum_over d (box_of d))
sum_within d light =
    within_plus (rule.exactly d.constant) _ (rule.exactly d.constant) _ (within_exactly d.constant)
    (within_cells (box_of d) (box_of d) (cells_of d.parts.now) light.is_box (part_of_itself (box_of d) light.is_box))

-- a cell with one of its values
value_open : (x : Balance) (c : Coefficient) (v : ℤ) → IsSummed x → closes x.difference (box_of x.difference) ≡ false → Contains x.difference.parts.now c
    → c.cell < length (box_of x.difference).lows → low (box_of x.difference) c.cell ≤ℤ v → v ≤ℤ high (box_of x.difference) c.cell
    → ends_width (multiple_over (box_of x.difference) c) < least_width x.difference.op (ends_of x.whole)
    → closes x.difference (with_interval (box_of x.difference) c.cell v v) ≡ false
value_open x c v summed whole own exists from to narrow =
    let d = x.difference in
    let b = box_of d in
    let op = d.op in
    let old = multiple_over b c in
    let new = rule.scaled c.k (rule.exactly v) in
    let within = within_scaled c.k (rule.exactly v) (rule.cell_ends b c.cell) (record { ordered = omega (arith, ints); from_low = from; to_high = to }) in
    let single : new.low ≡ new.high = omega (arith, ints, clamps) in
    let others : Ends = record { low = x.whole.low -ℤ old.low; high = x.whole.high -ℤ old.high } in
    let are : IsOthers x c others = record { low = omega (arith, ints); high = omega (arith, ints) } in
    let all = sum_within d summed.light in
    let low_is = ap (λ (a : rule.Ends). a.low) summed.whole in
    let high_is = ap (λ (a : rule.Ends). a.high) summed.whole in
    let more = new.low -ℤ old.low in
    let wide : pos (ends_width old) ≡ old.high -ℤ old.low = gap_size old.low old.high (omega (arith, ints, within.ordered, within.from_low, within.to_high)) in
    let stays =
    opened op (ends_of x.whole) (ends_width old) more (omega (arith, ints, all.ordered, low_is, high_is)) (ap (λ (a : rule.Ends). none_compares op a) summed.whole ∙ whole) narrow
    (omega (arith, ints, within.from_low)) (omega (arith, ints, wide, within.ordered, within.to_high))
    in
    sym (sum_moves x c others v v summed own exists are)
    ∙ (same_compares op (rule.plus (ends_of others) new) (rule.ends (x.whole.low +ℤ more) (x.whole.high -ℤ (pos (ends_width old) -ℤ more))) (omega (arith, ints))
    (omega (arith, ints, wide, single)) ∙ stays)
  where
    gap_size : (lo hi : ℤ) → lo ≤ℤ hi → pos (unsigned_abs (hi -ℤ lo)) ≡ hi -ℤ lo
    gap_size lo hi order = omega (arith, ints, order)

pub narrow_open : (x : Balance) (c : Coefficient) → IsSummed x → closes x.difference (box_of x.difference) ≡ false → Contains x.difference.parts.now c
    → ends_width (multiple_over (box_of x.difference) c) < least_width x.difference.op (ends_of x.whole) → IsOpenAt (closes x.difference) (box_of x.difference) c.cell
narrow_open x c summed whole own narrow =
    let d = x.difference in
    let b = box_of d in
    let lo = low b c.cell in
    let hi = high b c.cell in
    record {
      at_low = λ exists.
          sym (ap (closes d) (part_low b c.cell lo lo lo refl refl))
          ∙ value_open x c lo summed whole own exists (omega (arith, ints)) (summed.light.is_box.ordered c.cell exists) narrow;
      at_high = λ exists.
          sym (ap (closes d) (part_high b c.cell hi hi hi refl refl))
          ∙ value_open x c hi summed whole own exists (summed.light.is_box.ordered c.cell exists) (omega (arith, ints)) narrow;
    }

pub all_narrow : (x : Balance) (m : Maxima) (greatest least : ℕ) → IsSummed x → closes x.difference (box_of x.difference) ≡ false → AreWidths x.difference m
    → ((place : ℕ) → place < m.first → kept_number m place ≤ greatest) → least ≡ least_width x.difference.op (ends_of x.whole) → greatest < least
    → All (λ (c : Coefficient). IsOpenAt (closes x.difference) (box_of x.difference) c.cell) x.difference.parts.now
all_narrow x m greatest least summed whole widths most is narrow = λ k e below.
    let parts = x.difference.parts.now in
    let own = get_or parts k e in
    let wide = widths.each k e below in
    let under = most k (omega (arith, below, widths.places)) in
    narrow_open x own summed whole (k, below, get_or_default parts k own e below) (omega (arith, wide, under, is, narrow))
