-- What the tests of ends tell.
use Rattle.std.proofs.Common.{◌≡◌, ℕ, ◌+◌, ◌<◌, ◌≤◌, ℤ, pos, ◌+ℤ◌, ◌-ℤ◌, ◌<ℤ◌, ◌≤ℤ◌, true, false, List, [], ◌∷◌, length, get_or, take, arith, ap, refl, sym, subst, ◌∙◌}
use Rattle.std.specs.List.{All}
use Rattle.std.proofs.lemmas.List.{take_all, take_more}
use Rattle.std.proofs.lemmas.List.Elements.{All-append, All-cons, All-nil}
use Rattle.std.proofs.lemmas.Int.{ints}
use Rattle.sopl_base.specs.declared.reason.Step.{Step}
use Rattle.sopl_base.specs.declared.reason.Side.{Side}
use Rattle.sopl_base.specs.declared.reason.Side.TheVariants.{Le, Ge}
use Rattle.box_problem.specs.Box.{Box, Inside, high, low, with_high, with_low}
use Rattle.box_problem.proofs.Cuts.{high_lowered, low_raised}
use Rattle.box_problem.specs.Rightness.{IsRight}
use Rattle.term_program.specs.Programs.{root_in, with_interval}
use Rattle.prop_shave.specs.declared.shave_steps.CellEnd.{CellEnd}
use Rattle.prop_shave.specs.declared.shave_steps.Shave.{Shave}
use Rattle.prop_shave.specs.declared.probes.Probe.{Probe}
use Rattle.prop_shave.specs.Ends.{highest, highest_at, left_at, lowest, lowest_at, step_at, upper_of}
use Rattle.prop_shave.specs.Opened.{AreOpen, IsFixed, IsOpen, IsWhole}
use Rattle.prop_shave.specs.Probes.{IsAsked, IsEndOf, IsRemoval, closes, closes_part}
use Rattle.term_program.specs.Stated.{box_problem_of}
use Rattle.prop_shave.proofs.Parts.{part_high, part_low}
use Rattle.prop_shave.proofs.Removing as removing

-- the outermost value at the lower end, and at the upper one
low_stays : (q : Probe) (cell : ℕ) (side : Side) (lo hi : ℤ) → side ≡ Ge → lo ≡ low q.store.now.box cell
    → closes q (with_interval q.store.now.box cell (lowest_at side lo hi (pos 1)) (highest_at side lo hi (pos 1))) ≡ closes q (with_high q.store.now.box cell (low q.store.now.box cell))
low_stays q cell side lo hi lower is = removing.low_stays (closes q) q.store.now.box cell side lo hi lower is

high_stays : (q : Probe) (cell : ℕ) (side : Side) (lo hi : ℤ) → side ≡ Le → hi ≡ high q.store.now.box cell
    → closes q (with_interval q.store.now.box cell (lowest_at side lo hi (pos 1)) (highest_at side lo hi (pos 1))) ≡ closes q (with_low q.store.now.box cell (high q.store.now.box cell))
high_stays q cell side lo hi upper is = removing.high_stays (closes q) q.store.now.box cell side lo hi upper is

-- a cell with one value is open where the box is not closed
pub fixed_open : (q : Probe) (cell : ℕ) → IsWhole q → IsFixed q cell → IsOpen q cell
fixed_open q cell whole fixed = removing.fixed_open (closes q) q.store.now.box cell whole fixed

-- a cell is open where neither end's outermost value may be removed
pub both_open : (q : Probe) (cell : ℕ) (lower : CellEnd) → IsEndOf q lower → lower.cell ≡ cell → lower.side ≡ Ge → closes_part q lower (pos 1) ≡ false → closes_part q (upper_of lower) (pos 1)
    ≡ false → IsOpen q cell
both_open q cell lower is same side low_open high_open =
    subst (IsOpen q) same
    (record {
      at_low = λ exists. sym (low_stays q lower.cell lower.side lower.lo lower.hi side is.low) ∙ low_open;
      at_high = λ exists. sym (high_stays q lower.cell Le lower.lo lower.hi refl is.high) ∙ high_open;
    })

pub upper_end : (q : Probe) (lower upper : CellEnd) → IsEndOf q lower → upper ≡ upper_of lower → IsEndOf q upper
upper_end q lower upper is same =
    subst (IsEndOf q) (sym same) (record { exists = is.exists; low = is.low; high = is.high; wide = is.wide })

pub lower_is : (q : Probe) (cell : ℕ) (end : CellEnd) → cell < length q.store.now.box.lows → end.cell ≡ cell → end.lo ≡ low q.store.now.box cell → end.hi ≡ high q.store.now.box cell
    → end.lo <ℤ end.hi → IsEndOf q end
lower_is q cell end exists same is_low is_high wide = record {
  exists = subst (λ (n : ℕ). n < length q.store.now.box.lows) (sym same) exists;
  low = is_low ∙ ap (low q.store.now.box) (sym same);
  high = is_high ∙ ap (high q.store.now.box) (sym same);
  wide = wide;
}

pub lower_fixed : (q : Probe) (cell : ℕ) (end : CellEnd) → IsAsked q → end.lo ≡ low q.store.now.box cell → end.hi ≡ high q.store.now.box cell → end.hi ≤ℤ end.lo → IsFixed q cell
lower_fixed q cell end asked is_low is_high single exists =
    omega (arith, ints, is_low, is_high, single, asked.inside.is_box.ordered cell exists)

-- the values at an end lie within the root
pub part_from : (q : Probe) (end : CellEnd) (count x : ℤ) → IsAsked q → IsEndOf q end → pos 1 ≤ℤ count → count ≤ℤ (end.hi -ℤ end.lo) → x ≡ lowest end count → low (root_in q.program.now) end.cell ≤ℤ x
part_from q end count x asked is some fewer same =
    subst (λ (z : ℤ). low (root_in q.program.now) end.cell ≤ℤ z) (sym same)
    (from_at end.side end.lo end.hi count (low (root_in q.program.now) end.cell) (omega (arith, ints, is.low, asked.inside.from_low end.cell is.exists)) fewer)
  where
    from_at : (side : Side) (lo hi count root : ℤ) → root ≤ℤ lo → count ≤ℤ (hi -ℤ lo) → root ≤ℤ lowest_at side lo hi count
    from_at Ge lo hi count root below fewer = below
    from_at Le lo hi count root below fewer = omega (arith, ints, below, fewer)

pub part_to : (q : Probe) (end : CellEnd) (count x : ℤ) → IsAsked q → IsEndOf q end → pos 1 ≤ℤ count → count ≤ℤ (end.hi -ℤ end.lo) → x ≡ highest end count → x ≤ℤ high (root_in q.program.now) end.cell
part_to q end count x asked is some fewer same =
    subst (λ (z : ℤ). z ≤ℤ high (root_in q.program.now) end.cell) (sym same)
    (to_at end.side end.lo end.hi count (high (root_in q.program.now) end.cell) (omega (arith, ints, is.high, asked.inside.to_high end.cell is.exists)) fewer)
  where
    to_at : (side : Side) (lo hi count root : ℤ) → hi ≤ℤ root → count ≤ℤ (hi -ℤ lo) → highest_at side lo hi count ≤ℤ root
    to_at Ge lo hi count root above fewer = omega (arith, ints, above, fewer)
    to_at Le lo hi count root above fewer = above

-- more values that may be removed
pub removal_grown : (q : Probe) (end : CellEnd) (known next : Shave) → IsRemoval q end known → next.count ≡ known.count +ℤ known.by → next.by ≡ known.count +ℤ known.by
    → next.count ≤ℤ (end.hi -ℤ end.lo) → closes_part q end next.count ≡ true → IsRemoval q end next
removal_grown q end known next is count by fewer closed = record {
  some = omega (arith, ints, count, is.some, is.more);
  fewer = fewer;
  closed = closed;
  more = omega (arith, ints, by, is.some, is.more);
}

pub removal_with : (q : Probe) (end : CellEnd) (known next : Shave) → IsRemoval q end known → next.count ≡ known.count → pos 1 ≤ℤ next.by → IsRemoval q end next
removal_with q end known next is count more = record {
  some = omega (arith, ints, count, is.some);
  fewer = omega (arith, ints, count, is.fewer);
  closed = ap (closes_part q end) count ∙ is.closed;
  more = more;
}

-- values that may be removed are removed by a right step
right_at : (q : Probe) (cell : ℕ) (side : Side) (lo hi count : ℤ) → cell < length q.store.now.box.lows → lo ≡ low q.store.now.box cell → hi ≡ high q.store.now.box cell → pos 1 ≤ℤ count
    → count ≤ℤ (hi -ℤ lo) → closes q (with_interval q.store.now.box cell (lowest_at side lo hi count) (highest_at side lo hi count)) ≡ true
    → IsRight (box_problem_of q.program.now) q.best q.store.now.box (record { reason = q.reason; cell = cell; side = side; k = left_at side lo hi count })
unfolding box_problem_of
right_at q cell side lo hi count exists is_low is_high some fewer closed =
    let removes = removing.removes_at (closes q) q.store.now.box q.reason cell side lo hi count exists is_low is_high some fewer closed in
    record { cut = removes.cut; refuted = removes.closed }

pub removal_right : (q : Probe) (end : CellEnd) (removal : Shave) (step : Step) → IsEndOf q end → IsRemoval q end removal → step ≡ step_at end q.reason removal.count
    → IsRight (box_problem_of q.program.now) q.best q.store.now.box step
removal_right q end removal step is known same =
    subst (IsRight (box_problem_of q.program.now) q.best q.store.now.box) (sym same)
    (right_at q end.cell end.side end.lo end.hi removal.count is.exists is.low is.high known.some known.fewer known.closed)

pub removal_own : (q : Probe) (end : CellEnd) (count : ℤ) (step : Step) → step ≡ step_at end q.reason count → step.reason ≡ q.reason
removal_own q end count step same = ap (λ (s : Step). s.reason) same

-- one cell more is open, and then all of them are
pub open_more : (q : Probe) (cells : List ℕ) (i d : ℕ) → All (IsOpen q) (take i cells) → i < length cells → IsOpen q (get_or cells i d) → All (IsOpen q) (take (i + 1) cells)
open_more q cells i d before exists here =
    subst (All (IsOpen q)) (sym (take_more cells i d exists))
    (All-append (IsOpen q) (take i cells) (get_or cells i d ∷ []) before (All-cons (IsOpen q) (get_or cells i d) [] here (All-nil (IsOpen q))))

pub open_all : (q : Probe) (cells : List ℕ) (i : ℕ) → length cells ≤ i → All (IsOpen q) (take i cells) → AreOpen q cells
open_all q cells i all before = subst (All (IsOpen q)) (take_all i cells all) before

-- a cell is open where no part is closed in which it alone has another interval
pub open_by : (q : Probe) (cell : ℕ) → IsAsked q → ((lo hi : ℤ) → Inside (with_interval q.store.now.box cell lo hi) q.store.now.box → low (root_in q.program.now) cell ≤ℤ lo → lo ≤ℤ hi
    → hi ≤ℤ high (root_in q.program.now) cell → closes q (with_interval q.store.now.box cell lo hi) ≡ false) → IsOpen q cell
open_by q cell asked each =
    let b = q.store.now.box in
    let is_box = asked.inside.is_box in
    record {
      at_low = λ exists.
          let k = low b cell in
          let same = part_low b cell k k k refl refl in
          let inside : Inside (with_interval b cell k k) b =
          subst (λ (x : Box). Inside x b) (sym same) (high_lowered b cell k is_box exists (omega (arith, ints)) (is_box.ordered cell exists))
          in
          ap (closes q) (sym same)
          ∙ each k k inside (asked.inside.from_low cell exists) (omega (arith, ints))
          (let top = asked.inside.to_high cell exists in let order = is_box.ordered cell exists in omega (arith, ints, top, order));
      at_high = λ exists.
          let k = high b cell in
          let same = part_high b cell k k k refl refl in
          let inside : Inside (with_interval b cell k k) b =
          subst (λ (x : Box). Inside x b) (sym same) (low_raised b cell k is_box exists (is_box.ordered cell exists) (omega (arith, ints)))
          in
          ap (closes q) (sym same)
          ∙ each k k inside (let bottom = asked.inside.from_low cell exists in let order = is_box.ordered cell exists in omega (arith, ints, bottom, order)) (omega (arith, ints))
          (asked.inside.to_high cell exists);
    }
