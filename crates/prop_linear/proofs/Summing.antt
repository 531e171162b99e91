-- A linear comparison over a box has room, and so has it with another interval for one cell.
use Rattle.std.proofs.Common.{◌≡◌, inl, inr, ℕ, ◌+◌, ◌*◌, ◌<◌, ◌≤◌, ◌^◌, ℤ, pos, ◌+ℤ◌, ◌-ℤ◌, ◌*ℤ◌, ◌≤ℤ◌, ◌<ℤ◌, unsigned_abs, w64, FitsSigned, false, List, [], ◌∷◌, length, get_or}
use Rattle.std.proofs.Common.{take, arith, ap, refl, sym, subst, ◌∙◌}
use Rattle.std.specs.List.{All, Contains}
use Rattle.std.proofs.lemmas.Bool.{cases_lt}
use Rattle.std.proofs.lemmas.Int.{ints, fits_signed_from_abs, unsigned_abs-mul}
use Rattle.std.proofs.lemmas.List.{get_or_past, take_all, take_more}
use Rattle.std.proofs.lemmas.List.Elements.{All-append, All-cons, All-nil}
use Rattle.std.proofs.Math.Nat.{mul-le-mul_left}
use Rattle.sopl_base.specs.declared.comparison.CmpOp.{CmpOp}
use Rattle.sopl_base.specs.declared.reason.Reason.{Reason}
use Rattle.sopl_base.specs.declared.reason.Side.{Side}
use Rattle.sopl_base.specs.declared.reason.Side.TheVariants.{Le, Ge}
use Rattle.sopl_base.specs.declared.reason.Step.{Step}
use Rattle.sopl_base.proofs.Sizes.{sized}
use Rattle.box_problem.specs.Box.{Box, IsBox, Inside, high, low}
use Rattle.box_problem.proofs.Boxes.{part_of_itself}
use Rattle.term_language.specs.Ends as rule
use Rattle.term_language.specs.Forms.{cells_ends}
use Rattle.term_language.specs.Marks.{none_compares}
use Rattle.term_language.specs.Sizes.{cells_weight, weight_of}
use Rattle.term_language.proofs.Bounds.{Bounds, small, bounds_plus, bounds_scaled, bounds_weight}
use Rattle.prop_shave.specs.declared.shave_steps.CellEnd.{CellEnd}
use Rattle.prop_shave.specs.declared.shave_steps.Shave.{Shave}
use Rattle.prop_shave.specs.Ends.{highest, highest_at, lowest, lowest_at, step_at, upper_of}
use Rattle.prop_shave.specs.Removals.{IsOpenAt, Removes}
use Rattle.prop_shave.proofs.Removing as removing
use Rattle.term_program.specs.Programs.{with_interval}
use Rattle.term_math.specs.declared.ends.Ends.{Ends}
use Rattle.term_math.specs.declared.forms.Coefficient.{Coefficient}
use Rattle.term_math.specs.Shown.{CellsFit, IsFit, cells_of, ends_at, ends_of}
use Rattle.term_math.proofs.Fits.{cells_bounds, cells_fit, fit, fit_at}
use Rattle.prop_linear.specs.declared.balances.Balance.{Balance}
use Rattle.prop_linear.specs.declared.balances.Difference.{Difference}
use Rattle.prop_linear.specs.declared.turns.Turn.{Turn}
use Rattle.prop_linear.specs.Balances.{IsLight, IsOthers, IsSummed, IsTurnIn, box_of, closes, sum_over}
use Rattle.prop_linear.specs.Turns.{HasRoom, IsRemoval, turn_closes, with_end}
use Rattle.prop_linear.proofs.Cells.{one_cell, part_lighter}
use Rattle.prop_linear.proofs.Tells.{same_compares}

-- the cells, and the whole sum
whole : (d : Difference) → IsLight d → Inside (box_of d) (box_of d)
whole d light = part_of_itself (box_of d) light.is_box

pub cells_have_room : (d : Difference) → IsLight d → CellsFit (box_of d) d.parts.now
cells_have_room d light =
    cells_fit (box_of d) (box_of d) d.parts.now light.is_box (whole d light) (omega (arith, light.light))

sum_bounds : (d : Difference) → IsLight d → Bounds (sum_over d (box_of d)) (2 ^ 42)
sum_bounds d light =
    let cells = cells_bounds (box_of d) (box_of d) d.parts.now light.is_box (whole d light) in
    let constant : Bounds (rule.exactly d.constant) (unsigned_abs d.constant) = record { low = omega arith; high = omega arith } in
    let all = bounds_plus (rule.exactly d.constant) (cells_ends (box_of d) (cells_of d.parts.now)) (unsigned_abs d.constant) (cells_weight (box_of d) (cells_of d.parts.now)) constant cells in
    record { low = omega (arith, all.low, light.light); high = omega (arith, all.high, light.light) }

pub whole_has_room : (d : Difference) (constant cells : Ends) → IsLight d → ends_of constant ≡ rule.exactly d.constant → ends_of cells ≡ cells_ends (box_of d) (cells_of d.parts.now)
    → IsFit (rule.plus (ends_of constant) (ends_of cells))
whole_has_room d constant cells light first second =
    subst (λ (a : rule.Ends). IsFit (rule.plus a (ends_of cells))) (sym first)
    (subst (λ (a : rule.Ends). IsFit (rule.plus (rule.exactly d.constant) a)) (sym second)
    (fit (sum_over d (box_of d)) (2 ^ 42) (sum_bounds d light) (omega arith)))

-- one part
part_weighs : (d : Difference) (c : Coefficient) → IsLight d → Contains d.parts.now c → unsigned_abs c.k * weight_of (rule.cell_ends (box_of d) c.cell) ≤ 2 ^ 42
part_weighs d c light own = let less = part_lighter (box_of d) d.parts.now c own in omega (arith, less, light.light)

part_bounds : (d : Difference) (c : Coefficient) → IsLight d → Contains d.parts.now c → Bounds (rule.scaled c.k (rule.cell_ends (box_of d) c.cell)) (2 ^ 42)
part_bounds d c light own =
    let a = rule.cell_ends (box_of d) c.cell in
    let bounds = bounds_scaled c.k a (weight_of a) (bounds_weight a) in
    let most = part_weighs d c light own in
    record { low = omega (arith, bounds.low, most); high = omega (arith, bounds.high, most) }

pub part_has_room : (d : Difference) (c : Coefficient) (k : ℤ) (interval : Ends) → IsLight d → Contains d.parts.now c → k ≡ c.k → ends_of interval ≡ rule.cell_ends (box_of d) c.cell
    → IsFit (ends_at k (ends_of interval))
part_has_room d c k interval light own same is =
    let a = rule.cell_ends (box_of d) c.cell in
    subst (λ (z : ℤ). IsFit (ends_at z (ends_of interval))) (sym same)
    (subst (λ (e : rule.Ends). IsFit (ends_at c.k e)) (sym is)
    (fit_at c.k a (weight_of a) (bounds_weight a) (let most = part_weighs d c light own in omega (arith, most))))

-- the sum without a part
gap_size : (x y : ℤ) → unsigned_abs x ≤ 2 ^ 42 → unsigned_abs y ≤ 2 ^ 42 → unsigned_abs (x -ℤ y) ≤ 2 ^ 43
gap_size x y first second =
    let one = small x (2 ^ 42) first in
    let two = small y (2 ^ 42) second in
    sized (x -ℤ y) (2 ^ 43) (omega (arith, ints, one.0, two.1)) (omega (arith, ints, one.1, two.0))

whole_size : (x : Balance) → IsSummed x → Bounds (ends_of x.whole) (2 ^ 42)
whole_size x summed =
    subst (λ (a : rule.Ends). Bounds a (2 ^ 42)) (sym summed.whole) (sum_bounds x.difference summed.light)

own_size : (d : Difference) (c : Coefficient) (own : Ends) → IsLight d → Contains d.parts.now c → ends_of own ≡ rule.scaled c.k (rule.cell_ends (box_of d) c.cell) → Bounds (ends_of own) (2 ^ 42)
own_size d c own light there is = subst (λ (a : rule.Ends). Bounds a (2 ^ 42)) (sym is) (part_bounds d c light there)

low_has_room : (x : Balance) (c : Coefficient) (own : Ends) → IsSummed x → Contains x.difference.parts.now c → ends_of own ≡ rule.scaled c.k (rule.cell_ends (box_of x.difference) c.cell)
    → FitsSigned w64 (x.whole.low -ℤ own.low)
low_has_room x c own summed there is =
    let size = gap_size x.whole.low own.low (whole_size x summed).low (own_size x.difference c own summed.light there is).low in
    fits_signed_from_abs w64 (x.whole.low -ℤ own.low) (omega (arith, size))

high_has_room : (x : Balance) (c : Coefficient) (own : Ends) → IsSummed x → Contains x.difference.parts.now c → ends_of own ≡ rule.scaled c.k (rule.cell_ends (box_of x.difference) c.cell)
    → FitsSigned w64 (x.whole.high -ℤ own.high)
high_has_room x c own summed there is =
    let size = gap_size x.whole.high own.high (whole_size x summed).high (own_size x.difference c own summed.light there is).high in
    fits_signed_from_abs w64 (x.whole.high -ℤ own.high) (omega (arith, size))

pub others_fit : (x : Balance) (c : Coefficient) (own : Ends) → IsSummed x → Contains x.difference.parts.now c → ends_of own ≡ rule.scaled c.k (rule.cell_ends (box_of x.difference) c.cell)
    → IsFit (rule.ends (x.whole.low -ℤ own.low) (x.whole.high -ℤ own.high))
others_fit x c own summed there is = record { low = low_has_room x c own summed there is; high = high_has_room x c own summed there is }

pub others_are : (x : Balance) (c : Coefficient) (own others : Ends) → ends_of own ≡ rule.scaled c.k (rule.cell_ends (box_of x.difference) c.cell) → others.low ≡ x.whole.low -ℤ own.low
    → others.high ≡ x.whole.high -ℤ own.high → IsOthers x c others
others_are x c own others is low high =
    let own_low = ap (λ (a : rule.Ends). a.low) is in
    let own_high = ap (λ (a : rule.Ends). a.high) is in
    record { low = omega (arith, ints, low, own_low); high = omega (arith, ints, high, own_high) }

-- a cell that has more than one value exists
there : (b : Box) (cell : ℕ) → IsBox b → low b cell <ℤ high b cell → cell < length b.lows
there b cell is_box wide =
    elim (cases_lt cell (length b.lows)) [
      | inl exists ↦ exists
      | inr past ↦
          let first : low b cell ≡ pos 0 = get_or_past b.lows cell (pos 0) past in
          let second : high b cell ≡ pos 0 = get_or_past b.highs cell (pos 0) (omega (arith, past, is_box.paired)) in
          absurd (omega (arith, ints, wide, first, second))
    ]

pub fixed : (d : Difference) (cell : ℕ) (lo hi : ℤ) → IsLight d → lo ≡ low (box_of d) cell → hi ≡ high (box_of d) cell → hi ≤ℤ lo → low (box_of d) cell ≡ high (box_of d) cell
fixed d cell lo hi light is_low is_high single =
    elim (cases_lt cell (length (box_of d).lows)) [
      | inl exists ↦ omega (arith, ints, is_low, is_high, single, light.is_box.ordered cell exists)
      | inr past ↦ get_or_past (box_of d).lows cell (pos 0) past ∙ sym (get_or_past (box_of d).highs cell (pos 0) (omega (arith, past, light.is_box.paired)))
    ]

-- a number of an interval is no larger than its ends
pub value_size : (a : rule.Ends) (z : ℤ) → a.low ≤ℤ z → z ≤ℤ a.high → unsigned_abs z ≤ weight_of a
value_size a z from to =
    let bounds = bounds_weight a in
    let first = small a.low (weight_of a) bounds.low in
    let second = small a.high (weight_of a) bounds.high in
    sized z (weight_of a) (omega (arith, ints, first.0, from)) (omega (arith, ints, second.1, to))

times_size : (d : Difference) (c : Coefficient) (z : ℤ) → IsLight d → Contains d.parts.now c → low (box_of d) c.cell ≤ℤ z → z ≤ℤ high (box_of d) c.cell → unsigned_abs (c.k *ℤ z) ≤ 2 ^ 42
times_size d c z light own from to =
    let a = rule.cell_ends (box_of d) c.cell in
    let size = value_size a z from to in
    omega (arith, unsigned_abs-mul c.k z, mul-le-mul_left (unsigned_abs c.k) size, part_weighs d c light own)

-- one cell of the comparison
pub sum_moves : (x : Balance) (c : Coefficient) (others : Ends) (lo hi : ℤ) → IsSummed x → Contains x.difference.parts.now c → c.cell < length (box_of x.difference).lows → IsOthers x c others
    → none_compares x.difference.op (rule.plus (ends_of others) (rule.scaled c.k (rule.ends lo hi))) ≡ closes x.difference (with_interval (box_of x.difference) c.cell lo hi)
sum_moves x c others lo hi summed own exists are =
    let d = x.difference in
    let b = box_of d in
    let moved = one_cell b d.parts.now c lo hi summed.light.is_box summed.light.ascend own exists in
    let whole_low = ap (λ (a : rule.Ends). a.low) summed.whole in
    let whole_high = ap (λ (a : rule.Ends). a.high) summed.whole in
    same_compares d.op (rule.plus (ends_of others) (rule.scaled c.k (rule.ends lo hi))) (sum_over d (with_interval b c.cell lo hi))
    (lead others.low (rule.scaled c.k (rule.cell_ends b c.cell)).low (rule.scaled c.k (rule.ends lo hi)).low (cells_ends b (cells_of d.parts.now)).low
    (cells_ends (with_interval b c.cell lo hi) (cells_of d.parts.now)).low x.whole.low d.constant are.low whole_low moved.low)
    (lead others.high (rule.scaled c.k (rule.cell_ends b c.cell)).high (rule.scaled c.k (rule.ends lo hi)).high (cells_ends b (cells_of d.parts.now)).high
    (cells_ends (with_interval b c.cell lo hi) (cells_of d.parts.now)).high x.whole.high d.constant are.high whole_high moved.high)
  where
    lead : (rest old new before after all constant : ℤ) → rest +ℤ old ≡ all → all ≡ constant +ℤ before → after +ℤ old ≡ before +ℤ new → rest +ℤ new ≡ constant +ℤ after
    lead rest old new before after all constant first second third = omega (arith, ints, first, second, third)

room_of : (x : Balance) (c : Coefficient) (op : CmpOp) (others : Ends) (end : CellEnd) → IsSummed x → Contains x.difference.parts.now c → IsOthers x c others
    → end.lo ≡ low (box_of x.difference) c.cell
    → end.hi ≡ high (box_of x.difference) c.cell → end.lo <ℤ end.hi → HasRoom (record { op = op; k = c.k; others = others; end = end })
room_of x c op others end summed own are is_low is_high wide =
    let d = x.difference in
    let part = part_bounds d c summed.light own in
    let sum = whole_size x summed in
    record {
      wide = wide;
      each = λ z from to. times_size d c z summed.light own (omega (arith, ints, is_low, from)) (omega (arith, ints, is_high, to));
      low = rest_size others.low (rule.scaled c.k (rule.cell_ends (box_of d) c.cell)).low x.whole.low are.low sum.low part.low;
      high = rest_size others.high (rule.scaled c.k (rule.cell_ends (box_of d) c.cell)).high x.whole.high are.high sum.high part.high;
    }
  where
    rest_size : (rest own all : ℤ) → rest +ℤ own ≡ all → unsigned_abs all ≤ 2 ^ 42 → unsigned_abs own ≤ 2 ^ 42 → unsigned_abs rest ≤ 2 ^ 43
    rest_size rest own all is first second =
        let same : all -ℤ own ≡ rest = omega (arith, ints, is) in
        subst (λ (z : ℤ). unsigned_abs z ≤ 2 ^ 43) same (gap_size all own first second)

abbrev turn_with : CmpOp → ℤ → Ends → CellEnd → Turn
turn_with op k others end = record { op = op; k = k; others = others; end = end }

turn_at : (x : Balance) (c : Coefficient) (op : CmpOp) (k : ℤ) (others : Ends) (end : CellEnd) → IsSummed x → Contains x.difference.parts.now c → op ≡ x.difference.op → k ≡ c.k → IsOthers x c others
    → end.cell ≡ c.cell → end.lo ≡ low (box_of x.difference) c.cell → end.hi ≡ high (box_of x.difference) c.cell → end.lo <ℤ end.hi → IsTurnIn x.difference (turn_with op k others end)
turn_at x c op k others end summed own same_op same_k are cell is_low is_high wide =
    let d = x.difference in
    let exists = there (box_of d) c.cell summed.light.is_box (omega (arith, ints, is_low, is_high, wide)) in
    subst (λ (o : CmpOp). IsTurnIn d (turn_with o k others end)) (sym same_op)
    (subst (λ (z : ℤ). IsTurnIn d (turn_with d.op z others end)) (sym same_k)
    (record {
      exists = subst (λ (n : ℕ). n < length (box_of d).lows) (sym cell) exists;
      low = is_low ∙ ap (low (box_of d)) (sym cell);
      high = is_high ∙ ap (high (box_of d)) (sym cell);
      room = room_of x c d.op others end summed own are is_low is_high wide;
      tells = λ lo hi.
          sum_moves x c others lo hi summed own exists are ∙ ap (λ (n : ℕ). closes d (with_interval (box_of d) n lo hi)) (sym cell);
    }))

pub turn_in : (x : Balance) (c : Coefficient) (t : Turn) (end : CellEnd) → IsSummed x → Contains x.difference.parts.now c → t.op ≡ x.difference.op → t.k ≡ c.k → t.end ≡ end → IsOthers x c t.others
    → end.cell ≡ c.cell → end.lo ≡ low (box_of x.difference) c.cell → end.hi ≡ high (box_of x.difference) c.cell → end.lo <ℤ end.hi → IsTurnIn x.difference t
turn_in x c t end summed own same_op same_k same are cell is_low is_high wide =
    let at_end = ap (λ (e : CellEnd). e.cell) same in
    let lo = ap (λ (e : CellEnd). e.lo) same in
    let hi = ap (λ (e : CellEnd). e.hi) same in
    let all = turn_at x c t.op t.k t.others t.end summed own same_op same_k are (at_end ∙ cell) (lo ∙ is_low) (hi ∙ is_high) (omega (arith, ints, lo, hi, wide)) in
    record { exists = all.exists; low = all.low; high = all.high; room = record { wide = all.room.wide; each = all.room.each; low = all.room.low; high = all.room.high }; tells = all.tells }

pub turn_cell : (t : Turn) (end : CellEnd) (cell : ℕ) → t.end ≡ end → end.cell ≡ cell → t.end.cell ≡ cell
turn_cell t end cell same is = ap (λ (e : CellEnd). e.cell) same ∙ is

pub turn_side : (t : Turn) (end : CellEnd) (side : Side) → t.end ≡ end → end.side ≡ side → t.end.side ≡ side
turn_side t end side same is = ap (λ (e : CellEnd). e.side) same ∙ is

pub upper_in : (d : Difference) (t upper : Turn) → IsTurnIn d t → upper ≡ with_end t (upper_of t.end) → IsTurnIn d upper
upper_in d t upper is same =
    subst (IsTurnIn d) (sym same) (record {
      exists = is.exists;
      low = is.low;
      high = is.high;
      room = record { wide = is.room.wide; each = is.room.each; low = is.room.low; high = is.room.high };
      tells = is.tells;
    })

-- what is known of a cell whose ends were tried
pub fixed_open : (d : Difference) (cell : ℕ) → closes d (box_of d) ≡ false → low (box_of d) cell ≡ high (box_of d) cell → IsOpenAt (closes d) (box_of d) cell
fixed_open d cell whole single = removing.fixed_open (closes d) (box_of d) cell whole (λ exists. single)

pub both_open : (d : Difference) (cell : ℕ) (lower upper : Turn) → IsTurnIn d lower → lower.end.cell ≡ cell → lower.end.side ≡ Ge → upper ≡ with_end lower (upper_of lower.end)
    → turn_closes lower (pos 1) ≡ false → turn_closes upper (pos 1) ≡ false → IsOpenAt (closes d) (box_of d) cell
both_open d cell lower upper is same side are low_open high_open =
    let e = lower.end in
    let upper_open : turn_closes (with_end lower (upper_of e)) (pos 1) ≡ false = ap (λ (t : Turn). turn_closes t (pos 1)) (sym are) ∙ high_open in
    subst (IsOpenAt (closes d) (box_of d)) same
    (record {
      at_low = λ exists.
          sym (removing.low_stays (closes d) (box_of d) e.cell e.side e.lo e.hi side is.low)
          ∙ sym (is.tells (lowest_at e.side e.lo e.hi (pos 1)) (highest_at e.side e.lo e.hi (pos 1))) ∙ low_open;
      at_high = λ exists.
          sym (removing.high_stays (closes d) (box_of d) e.cell Le e.lo e.hi refl is.high)
          ∙ sym (is.tells (lowest_at Le e.lo e.hi (pos 1)) (highest_at Le e.lo e.hi (pos 1))) ∙ upper_open;
    })

pub step_removes : (d : Difference) (t : Turn) (removal : Shave) (reason : Reason) (step : Step) → IsTurnIn d t → IsRemoval t removal → step ≡ step_at t.end reason removal.count
    → Removes (closes d) (box_of d) step
step_removes d t removal reason step is known same =
    let e = t.end in
    subst (Removes (closes d) (box_of d)) (sym same)
    (removing.removes_at (closes d) (box_of d) reason e.cell e.side e.lo e.hi removal.count is.exists is.low is.high known.some known.fewer
    (sym (is.tells (lowest e removal.count) (highest e removal.count)) ∙ known.closed))

pub step_own : (t : Turn) (count : ℤ) (reason : Reason) (step : Step) → step ≡ step_at t.end reason count → step.reason ≡ reason
step_own t count reason step same = ap (λ (s : Step). s.reason) same

-- one part more is open, and then all of them are
abbrev pub AreOpen : Difference → List Coefficient → Type 0
AreOpen d parts = All (λ (c : Coefficient). IsOpenAt (closes d) (box_of d) c.cell) parts

pub open_more : (d : Difference) (i : ℕ) (c : Coefficient) → AreOpen d (take i d.parts.now) → i < length d.parts.now → IsOpenAt (closes d) (box_of d) (get_or d.parts.now i c).cell
    → AreOpen d (take (i + 1) d.parts.now)
open_more d i c before exists here =
    subst (AreOpen d) (sym (take_more d.parts.now i c exists))
    (All-append (λ (x : Coefficient). IsOpenAt (closes d) (box_of d) x.cell) (take i d.parts.now) (get_or d.parts.now i c ∷ []) before
    (All-cons (λ (x : Coefficient). IsOpenAt (closes d) (box_of d) x.cell) (get_or d.parts.now i c) [] here (All-nil (λ (x : Coefficient). IsOpenAt (closes d) (box_of d) x.cell))))

pub open_all : (d : Difference) (i : ℕ) → length d.parts.now ≤ i → AreOpen d (take i d.parts.now) → AreOpen d d.parts.now
open_all d i all before = subst (AreOpen d) (take_all i d.parts.now all) before
