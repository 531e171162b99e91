-- What holds of cells that are to rise.
use Rattle.std.proofs.Common.{◌≡◌, ◌⊎◌, inl, inr, ℕ, zero, suc, ◌+◌, ◌*◌, ◌^◌, ◌<◌, ◌≤◌, nat_le, nat_lt, ℤ, pos, ◌+ℤ◌, ◌-ℤ◌, ◌<ℤ◌, ◌≤ℤ◌, int_le, int_lt, Bool, true, false, ◌&&◌}
use Rattle.std.proofs.Common.{List, [], ◌∷◌, ◌++◌, Option, Some, None, length, map, get_or, arith, refl, sym, ap, subst, ◌∙◌}
use Rattle.std.specs.Int.{int_gap}
use Rattle.std.specs.List.{All, Contains, range_with_len}
use Rattle.std.specs.List.Sorted.{IsStrictlyIncreasing}
use Rattle.std.proofs.lemmas.Bool.{cases_eq}
use Rattle.std.proofs.lemmas.Int.{ints, by_lt_z}
use Rattle.std.proofs.lemmas.List.{get_or-set_same, length-map, map-append}
use Rattle.std.proofs.lemmas.List.Elements.{All-append, All-cons, All-nil, Contains-append_cases, Contains-append_left, Contains-append_right}
use Rattle.std.proofs.lemmas.List.FromFn.{length-range_with_len}
use Rattle.std.proofs.lemmas.List.Sums.{count_by-le-length, length-filter}
use Rattle.sopl_base.specs.declared.direction.Direction.TheVariants.{Maximize}
use Rattle.sopl_base.specs.declared.interval.Interval.{Interval}
use Rattle.sopl_base.specs.declared.reason.Reason.{Reason}
use Rattle.sopl_base.specs.declared.reason.Reason.TheVariants.{Hard, Chance, Undefined, Bound}
use Rattle.sopl_base.specs.declared.reason.Side.TheVariants.{Le, Ge}
use Rattle.sopl_base.proofs.Booleans.{and_true}
use Rattle.sopl_base.proofs.Tests.{le_test, le_tested, le_untest, lt_test, lt_tested, lt_untest, lt_untested, nat_test, nat_tested}
use Rattle.box_problem.specs.Bits.{bits_between, bits_in, digits}
use Rattle.box_problem.specs.Box.{Box, Inside, InBox, IsBox, IsPoint, box_of, low, high, with_low, with_high}
use Rattle.box_problem.specs.BoxProblem.{Beats, Follows, Lawful}
use Rattle.box_problem.specs.Near.{IsNear}
use Rattle.box_problem.specs.Rightness.{Quiets}
use Rattle.box_problem.proofs.Boxes.{intervals_make_a_box, part_of_itself}
use Rattle.box_problem.proofs.Lists.{at_set}
use Rattle.prop_core.specs.Findings.{Closes, Narrows}
use Rattle.prop_core.specs.Members.{together}
use Rattle.prop_core.specs.Watches.{LooksAt}
use Rattle.prop_core.proofs.OneReason.{for_each, itself}
use Rattle.sopl_search.specs.Ends.{AreAll, IsPosed}
use Rattle.branch_tests.specs.Rising.{AreNear, IsChain, LooksAtRise, falls, is_closed, problem_of, reached, rise, rise_from, rising, rising_reasons}

beyond : (x y : ℤ) → int_le x y ≡ false → y <ℤ x
beyond x y test = grind (arith, ints)

-- two tests at once
both : (t u : Bool) → t ≡ true → u ≡ true → (t && u) ≡ true
both t u one two = and_true t u one ∙ two

first_of_both : (t u : Bool) → (t && u) ≡ true → t ≡ true
first_of_both true u is = refl
first_of_both false u is = absurd (cc)

last_of_both : (t u : Bool) → (t && u) ≡ true → u ≡ true
last_of_both true u is = is
last_of_both false u is = absurd (cc)

none_of_both : (t u : Bool) → u ≡ false → (t && u) ≡ false
none_of_both true u is = is
none_of_both false u is = refl

-- the cells of a part of the root
cells_there : (intervals : List Interval) (pairs : ℕ) (b : Box) → length intervals ≡ pairs + 1 → Inside b (box_of intervals) → length b.lows ≡ pairs + 1
cells_there intervals pairs b many inside = omega (arith, inside.same_cells, length-map intervals (λ (i : Interval). i.lo), many)

pub cell_there : (intervals : List Interval) (b : Box) (cell : ℕ) → Inside b (box_of intervals) → cell < length intervals → cell < length b.lows
cell_there intervals b cell inside exists =
    omega (arith, inside.same_cells, length-map intervals (λ (i : Interval). i.lo), exists)

pub root_inside : (intervals : List Interval) (b : Box) → b ≡ box_of intervals → Inside b (box_of intervals)
root_inside intervals b is =
    subst (λ (box : Box). Inside box (box_of intervals)) (sym is) (part_of_itself (box_of intervals) (intervals_make_a_box intervals))

-- a cell that is above the next one
falling : (pairs : ℕ) (b : Box) (first second : ℕ) → first < pairs → second ≡ first + 1 → high b second <ℤ low b first → falls pairs b first ≡ true
falling pairs b first second below next fall =
    both (nat_lt first pairs) (int_lt (high b (first + 1)) (low b first)) (nat_test first pairs below)
    (lt_test (high b (first + 1)) (low b first) (subst (λ (n : ℕ). high b n <ℤ low b first) next fall))

not_falling : (pairs : ℕ) (b : Box) (first second : ℕ) → second ≡ first + 1 → low b first ≤ℤ high b second → falls pairs b first ≡ false
not_falling pairs b first second next within =
    none_of_both (nat_lt first pairs) (int_lt (high b (first + 1)) (low b first))
    (lt_untest (high b (first + 1)) (low b first) (subst (λ (n : ℕ). low b first ≤ℤ high b n) next within))

fallen : (pairs : ℕ) (b : Box) (cell : ℕ) → falls pairs b cell ≡ true → high b (cell + 1) <ℤ low b cell
fallen pairs b cell is = lt_tested (high b (cell + 1)) (low b cell) (last_of_both (nat_lt cell pairs) (int_lt (high b (cell + 1)) (low b cell)) is)

paired : (pairs : ℕ) (b : Box) (cell : ℕ) → falls pairs b cell ≡ true → cell < pairs
paired pairs b cell is = nat_tested cell pairs (first_of_both (nat_lt cell pairs) (int_lt (high b (cell + 1)) (low b cell)) is)

not_fallen : (pairs : ℕ) (b : Box) (cell : ℕ) → cell < pairs → falls pairs b cell ≡ false → low b cell ≤ℤ high b (cell + 1)
not_fallen pairs b cell below is =
    lt_untested (high b (cell + 1)) (low b cell) (sym (and_true (nat_lt cell pairs) (int_lt (high b (cell + 1)) (low b cell)) (nat_test cell pairs below)) ∙ is)

-- what rises, and at each place
from_at : (x : ℤ) (xs : List ℤ) (cell : ℕ) → rise_from x xs ≡ true → cell < length xs → get_or (x ∷ xs) cell (pos 0) ≤ℤ get_or xs cell (pos 0)
from_at x [] cell is below = absurd (omega (arith, below))
from_at x (y ∷ ys) zero is below = le_tested x y (first_of_both (int_le x y) (rise_from y ys) is)
from_at x (y ∷ ys) (suc cell) is below = from_at y ys cell (last_of_both (int_le x y) (rise_from y ys) is) (omega (arith, below))

rises_at : (point : List ℤ) (cell : ℕ) → rise point ≡ true → cell + 1 < length point → get_or point cell (pos 0) ≤ℤ get_or point (cell + 1) (pos 0)
rises_at [] cell is below = absurd (omega (arith, below))
rises_at (x ∷ xs) cell is below =
    subst (λ (n : ℕ). get_or (x ∷ xs) cell (pos 0) ≤ℤ get_or (x ∷ xs) n (pos 0)) (let same : suc cell ≡ cell + 1 = omega arith in same)
    (from_at x xs cell is (omega (arith, below)))

from_made : (x : ℤ) (xs : List ℤ) → ((cell : ℕ) → cell < length xs → get_or (x ∷ xs) cell (pos 0) ≤ℤ get_or xs cell (pos 0)) → rise_from x xs ≡ true
from_made x [] each = refl
from_made x (y ∷ ys) each =
    both (int_le x y) (rise_from y ys) (le_test x y (each zero (omega arith))) (from_made y ys (λ cell below. each (suc cell) (omega (arith, below))))

rise_made : (point : List ℤ) → ((cell : ℕ) → cell + 1 < length point → get_or point cell (pos 0) ≤ℤ get_or point (cell + 1) (pos 0)) → rise point ≡ true
rise_made [] each = refl
rise_made (x ∷ xs) each =
    from_made x xs (λ cell below. subst (λ (n : ℕ). get_or (x ∷ xs) cell (pos 0) ≤ℤ get_or (x ∷ xs) n (pos 0)) (let same : cell + 1 ≡ suc cell = omega arith in same)
    (each cell (omega (arith, below))))

-- the reasons that there are
for_reasons : (P : Reason → Type 0) (n : ℕ) → ((cell : ℕ) → cell < n → P (Hard cell 0)) → P Bound → (reason : Reason) → Contains (rising_reasons n) reason → P reason
for_reasons P zero each bound reason own = for_each Bound P bound reason own
for_reasons P (suc n) each bound reason own =
    elim (Contains-append_cases (Hard n 0 ∷ []) (rising_reasons n) reason own) [
      | inl first ↦ for_each (Hard n 0) P (each n (omega arith)) reason first
      | inr later ↦ for_reasons P n (λ cell below. each cell (omega (arith, below))) bound reason later
    ]

hard_there : (n cell : ℕ) → cell < n → Contains (rising_reasons n) (Hard cell 0)
hard_there zero cell below = absurd (omega (arith, below))
hard_there (suc n) cell below =
    elim (cases_eq cell n) [
      | inl same ↦ Contains-append_left (Hard n 0 ∷ []) (rising_reasons n) (Hard cell 0)
          (subst (λ (k : ℕ). Contains (Hard n 0 ∷ []) (Hard k 0)) (sym same) (itself (Hard n 0)))
      | inr other ↦ Contains-append_right (Hard n 0 ∷ []) (rising_reasons n) (Hard cell 0) (hard_there n cell (omega (arith, below, other)))
    ]

bound_there : (n : ℕ) → Contains (rising_reasons n) Bound
bound_there zero = itself Bound
bound_there (suc n) = Contains-append_right (Hard n 0 ∷ []) (rising_reasons n) Bound (bound_there n)

-- what is no greater than a value that is reached, and what is
not_reached_above : (x y : ℤ) (v : Option ℤ) → x ≤ℤ y → reached x v ≡ false → reached y v ≡ false
not_reached_above x y None order test = refl
not_reached_above x y (Some w) order test = le_untest y w (omega (arith, ints, order, beyond x w test))

reached_below : (x y : ℤ) (v : Option ℤ) → reached x v ≡ true → reached y v ≡ false → x <ℤ y
reached_below x y None test other = absurd (cc)
reached_below x y (Some w) test other = omega (arith, ints, le_tested x w test, beyond y w other)

-- what is told of a value as it is kept
pub reached_at : (value end : ℤ) (v : Option ℤ) (result answer : Bool) → value ≡ end → result ≡ reached value v → result ≡ answer → reached end v ≡ answer
reached_at value end v result answer same is test = ap (λ z. reached z v) (sym same) ∙ (sym is ∙ test)

sound_reason : (pairs : ℕ) (reason : Reason) (b : Box) (v : Option ℤ) (point : List ℤ) (root : Box) → length b.lows ≡ pairs + 1 → is_closed pairs reason b v ≡ true → InBox b point
    → ¬ Beats (rising pairs root) v point
sound_reason pairs (Hard cell zero) b v point root many test q beats =
    let below = paired pairs b cell test in
    absurd (omega (
      arith,
      ints,
      fallen pairs b cell test,
      rises_at point cell beats.satisfies (omega (arith, below, q.same_cells, many)),
      q.from_low cell (omega (arith, below, q.same_cells, many)),
      q.to_high (cell + 1) (omega (arith, below, q.same_cells, many)),
    ))
sound_reason pairs (Hard cell (suc scenario)) b v point root many test q beats = absurd (cc)
sound_reason pairs (Chance instance) b v point root many test q beats = absurd (cc)
sound_reason pairs (Undefined scenario) b v point root many test q beats = absurd (cc)
sound_reason pairs Bound b None point root many test q beats = absurd (cc)
sound_reason pairs Bound b (Some w) point root many test q beats =
    absurd (omega (arith, ints, le_tested (high b 0) w test, beats.better, q.to_high 0 (omega (arith, q.same_cells, many))))

point_rises : (pairs : ℕ) (b : Box) → length b.lows ≡ pairs + 1 → IsPoint b → ((cell : ℕ) → cell < pairs → falls pairs b cell ≡ false) → rise b.lows ≡ true
point_rises pairs b many one none = rise_made b.lows (λ cell below.
    let before : cell < pairs = omega (arith, below, many) in
    omega (arith, ints, not_fallen pairs b cell before (none cell before), one (cell + 1) below))

beats_point : (pairs : ℕ) (b root : Box) (v : Option ℤ) → length b.lows ≡ pairs + 1 → IsPoint b → ((cell : ℕ) → cell < pairs → falls pairs b cell ≡ false) → is_closed pairs Bound b v ≡ false
    → Beats (rising pairs root) v b.lows
beats_point pairs b root None many one hard bound = record { satisfies = point_rises pairs b many one hard; better = tt }
beats_point pairs b root (Some w) many one hard bound = record {
  satisfies = point_rises pairs b many one hard;
  better = omega (arith, ints, beyond (high b 0) w bound, one 0 (omega (arith, many)));
}

closed_later : (pairs : ℕ) (reason : Reason) (b : Box) (v w : Option ℤ) → Follows Maximize v w → is_closed pairs reason b w ≡ true → is_closed pairs reason b v ≡ true
closed_later pairs (Hard cell zero) b v w follows test = test
closed_later pairs (Hard cell (suc scenario)) b v w follows test = test
closed_later pairs (Chance instance) b v w follows test = test
closed_later pairs (Undefined scenario) b v w follows test = test
closed_later pairs Bound b v None follows test = absurd (cc)
closed_later pairs Bound b None (Some w) follows test = absurd follows
closed_later pairs Bound b (Some x) (Some w) follows test =
    by_lt_z x w
    (λ up. absurd (follows up))
    (λ down. le_test (high b 0) x (omega (arith, ints, le_tested (high b 0) w test, down)))

pub rising_lawful : (intervals : List Interval) (pairs : ℕ) → length intervals ≡ pairs + 1 → Lawful (problem_of intervals pairs)
rising_lawful intervals pairs many =
    let root = box_of intervals in
    record {
      root = intervals_make_a_box intervals;
      sound = λ reason b v point inside test q. sound_reason pairs reason b v point root (cells_there intervals pairs b many inside) test q;
      exact = λ b v inside one none.
          beats_point pairs b root v (cells_there intervals pairs b many inside) one (λ cell below. none (Hard cell 0) (hard_there pairs cell below)) (none Bound (bound_there pairs));
      end_bounds = λ b point inside q satisfies better.
          absurd (omega (arith, ints, better, q.to_high 0 (omega (arith, q.same_cells, cells_there intervals pairs b many inside))));
      end_exact = λ b inside one satisfies. sym (one 0 (omega (arith, cells_there intervals pairs b many inside)));
      bound = λ b w inside worse. by_lt_z w (high b 0) (λ up. absurd (worse up)) (λ down. le_test (high b 0) w down);
      later = λ reason b v w follows test. closed_later pairs reason b v w follows test;
    }

-- ends that are moved to one another
moved_low : (b : Box) (cell other : ℕ) (P : ℤ → Type 0) → cell < length b.lows → (other ≡ cell → P (high b cell)) → P (low b other) → P (low (with_low b cell (high b cell)) other)
moved_low b cell other P exists here there =
    at_set (λ n z. n ≡ other → P z) b.lows cell (high b cell) exists (λ same. here (sym same)) (λ n differs same. subst (λ (m : ℕ). P (low b m)) (sym same) there) other refl

moved_high : (b : Box) (cell other : ℕ) (P : ℤ → Type 0) → cell < length b.highs → (other ≡ cell → P (low b cell)) → P (high b other) → P (high (with_high b cell (low b cell)) other)
moved_high b cell other P exists here there =
    at_set (λ n z. n ≡ other → P z) b.highs cell (low b cell) exists (λ same. here (sym same)) (λ n differs same. subst (λ (m : ℕ). P (high b m)) (sym same) there) other refl

-- what is found of a cell and the next one
pub pair_quiet : (root b : Box) (pairs first second : ℕ) (v : Option ℤ) → IsBox b → second < length b.lows → second ≡ first + 1 → high b first ≤ℤ high b second → low b first ≤ℤ low b second
    → Quiets (rising pairs root) (Hard first 0 ∷ []) v b
pair_quiet root b pairs first second v is_box exists next highs lows =
    let within : low b first ≤ℤ high b second = omega (arith, ints, lows, is_box.ordered second exists) in
    record {
      whole = for_each (Hard first 0) (λ reason. is_closed pairs reason b v ≡ false) (not_falling pairs b first second next within);
      at_low = λ reason cell own there.
          for_each (Hard first 0) (λ reason. is_closed pairs reason (with_high b cell (low b cell)) v ≡ false)
          (not_falling pairs (with_high b cell (low b cell)) first second next
          (moved_high b cell second (λ z. low b first ≤ℤ z) (omega (arith, there, is_box.paired)) (λ same. subst (λ (n : ℕ). low b first ≤ℤ low b n) same lows) within))
          reason own;
      at_high = λ reason cell own there.
          for_each (Hard first 0) (λ reason. is_closed pairs reason (with_low b cell (high b cell)) v ≡ false)
          (not_falling pairs (with_low b cell (high b cell)) first second next
          (moved_low b cell first (λ z. z ≤ℤ high b second) there (λ same. subst (λ (n : ℕ). high b n ≤ℤ high b second) same highs) within))
          reason own;
    }

pub pair_dead : (root b : Box) (pairs first second : ℕ) (v : Option ℤ) → first < pairs → second ≡ first + 1 → high b second <ℤ low b first
    → Closes (rising pairs root) (Hard first 0 ∷ []) v b (Hard first 0)
pair_dead root b pairs first second v below next fall = record { own = itself (Hard first 0); closed = falling pairs b first second below next fall }

-- the upper end of the cell, and the lower end of the next one
pub pair_first : (root b : Box) (pairs first second : ℕ) (v : Option ℤ) (k : ℤ) → first < pairs → second < length b.lows → second ≡ first + 1 → low b first ≤ℤ high b second
    → high b second <ℤ high b first → k ≡ high b second → Narrows (rising pairs root) (Hard first 0 ∷ []) v b (record { reason = Hard first 0; cell = first; side = Le; k = k })
pair_first root b pairs first second v k below exists next within above is =
    let one : first < length b.lows = omega (arith, exists, next) in
    record {
      own = itself (Hard first 0);
      right = record {
        cut = record { exists = one; between = (omega (arith, ints, within, is), omega (arith, ints, above, is)) };
        refuted = falling pairs (with_low b first (k +ℤ pos 1)) first second below next (omega (arith, ints, is, get_or-set_same b.lows first (k +ℤ pos 1) (pos 0) one));
      };
      whole = for_each (Hard first 0) (λ reason. is_closed pairs reason b v ≡ false) (not_falling pairs b first second next within);
    }

pub pair_second : (root b : Box) (pairs first second : ℕ) (v : Option ℤ) (k : ℤ) → IsBox b → first < pairs → second < length b.lows → second ≡ first + 1 → low b first ≤ℤ high b second
    → low b second <ℤ low b first → k ≡ low b first → Narrows (rising pairs root) (Hard first 0 ∷ []) v b (record { reason = Hard first 0; cell = second; side = Ge; k = k })
pair_second root b pairs first second v k is_box below exists next within under is = record {
  own = itself (Hard first 0);
  right = record {
    cut = record { exists = exists; between = (omega (arith, ints, under, is), omega (arith, ints, within, is)) };
    refuted = falling pairs (with_high b second (k -ℤ pos 1)) first second below next
        (omega (arith, ints, is, get_or-set_same b.highs second (k -ℤ pos 1) (pos 0) (omega (arith, exists, is_box.paired))));
  };
  whole = for_each (Hard first 0) (λ reason. is_closed pairs reason b v ≡ false) (not_falling pairs b first second next within);
}

-- what is found of the bound
pub bound_quiet : (root b : Box) (pairs : ℕ) (v : Option ℤ) → IsBox b → 0 < length b.lows → reached (low b 0) v ≡ false → Quiets (rising pairs root) (Bound ∷ []) v b
bound_quiet root b pairs v is_box exists above =
    let high_above : reached (high b 0) v ≡ false = not_reached_above (low b 0) (high b 0) v (is_box.ordered 0 exists) above in
    record {
      whole = for_each Bound (λ reason. is_closed pairs reason b v ≡ false) high_above;
      at_low = λ reason cell own there.
          for_each Bound (λ reason. is_closed pairs reason (with_high b cell (low b cell)) v ≡ false)
          (moved_high b cell 0 (λ z. reached z v ≡ false) (omega (arith, there, is_box.paired)) (λ same. subst (λ (n : ℕ). reached (low b n) v ≡ false) same above) high_above)
          reason own;
      at_high = λ reason cell own there. for_each Bound (λ reason. is_closed pairs reason (with_low b cell (high b cell)) v ≡ false) high_above reason own;
    }

pub bound_dead : (root b : Box) (pairs : ℕ) (v : Option ℤ) → reached (high b 0) v ≡ true → Closes (rising pairs root) (Bound ∷ []) v b Bound
bound_dead root b pairs v worse = record { own = itself Bound; closed = worse }

pub bound_up : (root b : Box) (pairs : ℕ) (v : Option ℤ) (k : ℤ) → IsBox b → 0 < length b.lows → reached (high b 0) v ≡ false → reached (low b 0) v ≡ true → k ≡ low b 0 +ℤ pos 1
    → Narrows (rising pairs root) (Bound ∷ []) v b (record { reason = Bound; cell = 0; side = Ge; k = k })
bound_up root b pairs v k is_box exists above reaches is =
    let order : low b 0 <ℤ high b 0 = reached_below (low b 0) (high b 0) v reaches above in
    let low_again : high (with_high b 0 (k -ℤ pos 1)) 0 ≡ low b 0 = omega (arith, ints, is, get_or-set_same b.highs 0 (k -ℤ pos 1) (pos 0) (omega (arith, exists, is_box.paired))) in
    record {
      own = itself Bound;
      right = record {
        cut = record { exists = exists; between = (omega (arith, ints, is), omega (arith, ints, order, is)) };
        refuted = ap (λ z. reached z v) low_again ∙ reaches;
      };
      whole = for_each Bound (λ reason. is_closed pairs reason b v ≡ false) above;
    }

-- the cells that a propagator looks at
two_ascend : (first second : ℕ) → first < second → IsStrictlyIncreasing (first ∷ second ∷ [])
two_ascend first second up zero below = up
two_ascend first second up (suc k) below = absurd (omega (arith, below))

one_ascends : (cell : ℕ) → IsStrictlyIncreasing (cell ∷ [])
one_ascends cell k below = absurd (omega (arith, below))

pair_looks : (root : Box) (pairs first second : ℕ) → second ≡ first + 1 → LooksAt (rising pairs root) (Hard first 0 ∷ []) (first ∷ second ∷ [])
pair_looks root pairs first second next b c v reason b_in c_in agree own =
    for_each (Hard first 0) (λ r. is_closed pairs r b v ≡ is_closed pairs r c v)
    (ap (λ h. nat_lt first pairs && int_lt h (low b first)) (subst (λ (n : ℕ). high b n ≡ high c n) next (agree.highs second (1, omega arith, refl)))
    ∙ ap (λ l. nat_lt first pairs && int_lt (high c (first + 1)) l) (agree.lows first (0, omega arith, refl)))
    reason own

bound_looks : (root : Box) (pairs : ℕ) → LooksAt (rising pairs root) (Bound ∷ []) (0 ∷ [])
bound_looks root pairs b c v reason b_in c_in agree own =
    for_each Bound (λ r. is_closed pairs r b v ≡ is_closed pairs r c v) (ap (λ h. reached h v) (agree.highs 0 (0, omega arith, refl))) reason own

pub pair_fits : (intervals : List Interval) (pairs first second : ℕ) (cells : List ℕ) → IsChain intervals pairs → first < pairs → second ≡ first + 1 → cells ≡ first ∷ second ∷ []
    → LooksAtRise intervals pairs (Some first) cells
pair_fits intervals pairs first second cells chain below next is =
    subst (LooksAtRise intervals pairs (Some first)) (sym is)
    (record {
      fits = record {
        below = below;
        exists = omega (arith, below, chain.many);
        small = omega (arith, below, chain.many, chain.few);
      };
      looks = pair_looks (box_of intervals) pairs first second next;
      ascend = two_ascend first second (omega (arith, next));
    })

pub bound_fits : (intervals : List Interval) (pairs : ℕ) (cells : List ℕ) → IsChain intervals pairs → cells ≡ 0 ∷ [] → LooksAtRise intervals pairs None cells
bound_fits intervals pairs cells chain is =
    subst (LooksAtRise intervals pairs None) (sym is)
    (record {
      fits = omega (arith, chain.many);
      looks = bound_looks (box_of intervals) pairs;
      ascend = one_ascends 0;
    })

-- the reasons of several propagators and one more
kept : (lists : List (List Reason)) (own : List Reason) (reason : Reason) → Contains (together lists) reason → Contains (together (lists ++ own ∷ [])) reason
kept [] own reason here = absurd (omega (arith, here.1))
kept (x ∷ lists) own reason here =
    elim (Contains-append_cases x (together lists) reason here) [
      | inl first ↦ Contains-append_left x (together (lists ++ own ∷ [])) reason first
      | inr later ↦ Contains-append_right x (together (lists ++ own ∷ [])) reason (kept lists own reason later)
    ]

added : (lists : List (List Reason)) (own : List Reason) (reason : Reason) → Contains own reason → Contains (together (lists ++ own ∷ [])) reason
added [] own reason here = Contains-append_left own [] reason here
added (x ∷ lists) own reason here = Contains-append_right x (together (lists ++ own ∷ [])) reason (added lists own reason here)

pub reasons_more : {P : Type 0} (f : P → List Reason) (xs new : List P) (p : P) (first : ℕ) → new ≡ xs ++ p ∷ [] → f p ≡ Hard first 0 ∷ []
    → ((cell : ℕ) → cell < first → Contains (together (map f xs)) (Hard cell 0)) → (cell : ℕ) → cell < first + 1 → Contains (together (map f new)) (Hard cell 0)
reasons_more f xs new p first pushed is before cell below =
    subst (λ (lists : List (List Reason)). Contains (together lists) (Hard cell 0)) (sym (ap (map f) pushed ∙ map-append f xs (p ∷ []))) (by_cell (cases_eq cell first))
  where
    by_cell : (cell ≡ first) ⊎ (¬ cell ≡ first) → Contains (together (map f xs ++ f p ∷ [])) (Hard cell 0)
    by_cell (inl same) =
        added (map f xs) (f p) (Hard cell 0)
        (subst (λ (own : List Reason). Contains own (Hard cell 0)) (sym is) (subst (λ (k : ℕ). Contains (Hard first 0 ∷ []) (Hard k 0)) (sym same) (itself (Hard first 0))))
    by_cell (inr other) = kept (map f xs) (f p) (Hard cell 0) (before cell (omega (arith, below, other)))

pub reasons_all : {P : Type 0} (f : P → List Reason) (xs new : List P) (p : P) (intervals : List Interval) (pairs : ℕ) → new ≡ xs ++ p ∷ [] → f p ≡ Bound ∷ []
    → ((cell : ℕ) → cell < pairs → Contains (together (map f xs)) (Hard cell 0)) → AreAll (problem_of intervals pairs) (together (map f new))
reasons_all f xs new p intervals pairs pushed is before =
    subst (λ (lists : List (List Reason)). AreAll (problem_of intervals pairs) (together lists)) (sym (ap (map f) pushed ∙ map-append f xs (p ∷ [])))
    (record {
      among = λ reason own.
          for_reasons (Contains (together (map f xs ++ f p ∷ []))) pairs (λ cell below. kept (map f xs) (f p) (Hard cell 0) (before cell below))
          (added (map f xs) (f p) Bound (subst (λ (list : List Reason). Contains list Bound) (sym is) (itself Bound))) reason own;
    })

pub all_more : {X : Type 0} (P : X → Type 0) (xs new : List X) (x : X) → new ≡ xs ++ x ∷ [] → All P xs → P x → All P new
all_more P xs new x pushed all holds = subst (All P) (sym pushed) (All-append P xs (x ∷ []) all (All-cons P x [] holds (All-nil P)))

-- near intervals make a near box
near_lows : (intervals : List Interval) → AreNear intervals → (cell : ℕ) → cell < length intervals → IsNear (get_or (map (λ (i : Interval). i.lo) intervals) cell (pos 0))
near_lows [] near cell exists = absurd (omega (arith, exists))
near_lows (i ∷ intervals) near zero exists = (near zero i (omega arith)).low
near_lows (i ∷ intervals) near (suc cell) exists = near_lows intervals (λ k d below. near (suc k) d (omega (arith, below))) cell (omega (arith, exists))

near_highs : (intervals : List Interval) → AreNear intervals → (cell : ℕ) → cell < length intervals → IsNear (get_or (map (λ (i : Interval). i.hi) intervals) cell (pos 0))
near_highs [] near cell exists = absurd (omega (arith, exists))
near_highs (i ∷ intervals) near zero exists = (near zero i (omega arith)).high
near_highs (i ∷ intervals) near (suc cell) exists = near_highs intervals (λ k d below. near (suc k) d (omega (arith, below))) cell (omega (arith, exists))

pub chain_of : (intervals : List Interval) (pairs : ℕ) → AreNear intervals → length intervals ≡ pairs + 1 → length intervals ≤ 16 → IsChain intervals pairs
chain_of intervals pairs near many few = record {
  many = many;
  few = few;
  near = record {
    lows = λ cell exists. near_lows intervals near cell (omega (arith, exists, length-map intervals (λ (i : Interval). i.lo)));
    highs = λ cell exists. near_highs intervals near cell (omega (arith, exists, length-map intervals (λ (i : Interval). i.lo)));
  };
}

-- few cells have few bits
few_digits : (n : ℕ) → digits n ≤ 64
unfolding digits
few_digits n =
    let test : ℕ → Bool = λ k. nat_le (2 ^ k) n in
    let all : List ℕ = range_with_len 0 64 in
    omega (arith, length-filter test all, count_by-le-length test all, length-range_with_len 0 64)

chain_bits : (intervals : List Interval) → bits_in (box_of intervals) ≤ 64 * length intervals
chain_bits [] = omega arith
chain_bits (i ∷ intervals) =
    let rest : bits_between (map (λ (x : Interval). x.lo) intervals) (map (λ (x : Interval). x.hi) intervals) ≤ 64 * length intervals = chain_bits intervals in
    omega (arith, few_digits (int_gap i.lo i.hi), rest)

pub few_bits : (intervals : List Interval) (pairs : ℕ) → IsChain intervals pairs → bits_in (problem_of intervals pairs).root ≤ 1024
few_bits intervals pairs chain = omega (arith, chain_bits intervals, chain.few)

-- a search may be asked for over it
pub rising_posed : (intervals : List Interval) (pairs : ℕ) → IsChain intervals pairs → IsPosed (problem_of intervals pairs)
rising_posed intervals pairs chain = record { lawful = rising_lawful intervals pairs chain.many; near = chain.near; few_bits = few_bits intervals pairs chain }
