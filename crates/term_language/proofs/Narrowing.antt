-- Intervals, marks and truths over a part of a box.
use Rattle.std.proofs.Common.{◌≡◌, inl, inr, ℕ, ◌<◌, ℤ, pos, negsuc, unsigned_abs, ◌-ℤ◌, ◌*ℤ◌, ◌≤ℤ◌, ◌<ℤ◌, int_lt, int_le, Bool, true, false, if◌then◌else◌, List, [], ◌∷◌, length}
use Rattle.std.proofs.Common.{arith, refl, sym, ◌∙◌}
use Rattle.std.specs.List.{fold}
use Rattle.std.specs.Int.{int_min, int_max}
use Rattle.std.specs.Int.RustNames.{int_div, int_rem}
use Rattle.std.specs.Ordering.{int_eq}
use Rattle.std.proofs.lemmas.Int.{ints, clamps}
use Rattle.std.proofs.lemmas.Bool.{cases_lt}
use Rattle.sopl_base.specs.declared.comparison.CmpOp.{CmpOp}
use Rattle.sopl_base.specs.declared.comparison.CmpOp.TheVariants.{Eq, Ne, Lt, Le, Gt, Ge}
use Rattle.sopl_base.specs.declared.extreme.Extreme.{Extreme}
use Rattle.sopl_base.specs.declared.extreme.Extreme.TheVariants.{Least, Greatest}
use Rattle.term_language.specs.declared.made.Operation.{Operation}
use Rattle.term_language.specs.declared.made.Operation.TheVariants.{Quotient, Remainder, Size}
use Rattle.sopl_base.proofs.Tests.{equal_tested, le_tested}
use Rattle.sopl_base.proofs.Booleans.{impossible}
use Rattle.box_problem.specs.Box.{Box, IsBox, Inside}
use Rattle.term_language.specs.declared.answers.Defined.{Defined}
use Rattle.term_language.specs.declared.answers.Defined.TheVariants.{Never, Maybe, Always}
use Rattle.term_language.specs.declared.answers.Truth.{Truth}
use Rattle.term_language.specs.declared.answers.Truth.TheVariants.{False, Unknown, True}
use Rattle.term_language.specs.Ends.{Ends, Lies, has, ends, exactly, plus, between, hull, scaled, times, quotients, remainders, size_of, image, made, picked, cell_ends}
use Rattle.term_language.specs.Forms.{Coefficient, Form, is_constant, cells_ends, whole, plus_form}
use Rattle.term_language.specs.Marks.{both, opposite, and_truth, or_truth, truth_ends, judged, none_compares, all_compare, compared}
use Rattle.term_language.specs.Rules.{unless_folded, product_atoms, difference_ends}
use Rattle.term_language.specs.Laws.{Within, Sharper, Surer}
use Rattle.term_language.proofs.Products.{in_scaled, in_times}
use Rattle.term_language.proofs.FormValues.{by_if, by_bool, missing, and_first, and_second}
use Rattle.term_language.proofs.Operations.{Turns, in_image, size_turns, in_quotients, in_remainders, equal_tests, one_quotient, squeezed, divides, remainder_low, remainder_high}

-- both ends lie in the wider interval
low_lies : (a c : Ends) → Within a c → Lies a.low c
low_lies a c p = record { from_low = p.from_low; to_high = omega (arith, ints, p.ordered, p.to_high) }

high_lies : (a c : Ends) → Within a c → Lies a.high c
high_lies a c p = record { from_low = omega (arith, ints, p.ordered, p.from_low); to_high = p.to_high }

between_within : (x y : ℤ) (c : Ends) → Lies x c → Lies y c → Within (between x y) c
between_within x y c p q = record {
  ordered = omega (arith, ints, clamps);
  from_low = omega (arith, ints, clamps, p.from_low, q.from_low);
  to_high = omega (arith, ints, clamps, p.to_high, q.to_high);
}

pub within_exactly : (z : ℤ) → Within (exactly z) (exactly z)
within_exactly z = record { ordered = omega (arith, ints); from_low = omega (arith, ints); to_high = omega (arith, ints) }

pub within_plus : (a b c d : Ends) → Within a c → Within b d → Within (plus a b) (plus c d)
within_plus a b c d p q = record {
  ordered = omega (arith, ints, p.ordered, q.ordered);
  from_low = omega (arith, ints, p.from_low, q.from_low);
  to_high = omega (arith, ints, p.to_high, q.to_high);
}

pub within_scaled : (k : ℤ) (a c : Ends) → Within a c → Within (scaled k a) (scaled k c)
within_scaled k a c p =
    between_within (k *ℤ a.low) (k *ℤ a.high) (scaled k c) (in_scaled k a.low c (low_lies a c p)) (in_scaled k a.high c (high_lies a c p))

pub hull_within : (a b c : Ends) → Within a c → Within b c → Within (hull a b) c
hull_within a b c p q = record {
  ordered = omega (arith, ints, clamps, p.ordered, q.ordered);
  from_low = omega (arith, ints, clamps, p.from_low, q.from_low);
  to_high = omega (arith, ints, clamps, p.to_high, q.to_high);
}

pub within_times : (a b c d : Ends) → Within a c → Within b d → Within (times a b) (times c d)
within_times a b c d p q =
    hull_within (scaled a.low b) (scaled a.high b) (times c d)
    (between_within (a.low *ℤ b.low) (a.low *ℤ b.high) (times c d)
    (in_times a.low b.low c d (low_lies a c p) (low_lies b d q)) (in_times a.low b.high c d (low_lies a c p) (high_lies b d q)))
    (between_within (a.high *ℤ b.low) (a.high *ℤ b.high) (times c d)
    (in_times a.high b.low c d (high_lies a c p) (low_lies b d q)) (in_times a.high b.high c d (high_lies a c p) (high_lies b d q)))

pub within_quotients : (k : ℤ) (a c : Ends) → Within a c → Within (quotients a k) (quotients c k)
within_quotients k a c p =
    between_within (int_div a.low k) (int_div a.high k) (quotients c k) (in_quotients k a.low c (low_lies a c p)) (in_quotients k a.high c (high_lies a c p))

pub within_picked : (which : Extreme) (a b c d : Ends) → Within a c → Within b d → Within (picked which a b) (picked which c d)
within_picked Least a b c d p q = record {
  ordered = omega (arith, ints, clamps, p.ordered, q.ordered);
  from_low = omega (arith, ints, clamps, p.from_low, q.from_low);
  to_high = omega (arith, ints, clamps, p.to_high, q.to_high);
}
within_picked Greatest a b c d p q = record {
  ordered = omega (arith, ints, clamps, p.ordered, q.ordered);
  from_low = omega (arith, ints, clamps, p.from_low, q.from_low);
  to_high = omega (arith, ints, clamps, p.to_high, q.to_high);
}

-- images
pub within_image : (f : ℤ → ℤ) → Turns f → (a c : Ends) → Within a c → Within (image f a) (image f c)
within_image f turns a c p =
    let ends_within = between_within (f a.low) (f a.high) (image f c) (in_image f turns a.low c (low_lies a c p)) (in_image f turns a.high c (high_lies a c p)) in
    by_if (λ (e : Ends). Within e (image f c)) (has a (pos 0)) (hull (exactly (f (pos 0))) (between (f a.low) (f a.high))) (between (f a.low) (f a.high))
    (λ inside.
    let from = le_tested a.low (pos 0) (and_first (int_le a.low (pos 0)) (int_le (pos 0) a.high) inside) in
    let to = le_tested (pos 0) a.high (and_second (int_le a.low (pos 0)) (int_le (pos 0) a.high) inside) in
    let zero = in_image f turns (pos 0) c (record { from_low = omega (arith, ints, from, p.from_low); to_high = omega (arith, ints, to, p.to_high) }) in
    hull_within (exactly (f (pos 0))) (between (f a.low) (f a.high)) (image f c)
    (record { ordered = omega (arith, ints); from_low = zero.from_low; to_high = zero.to_high }) ends_within)
    (λ outside. ends_within)

-- cells and forms
pub within_cell : (part whole : Box) (cell : ℕ) → IsBox whole → Inside part whole → Within (cell_ends part cell) (cell_ends whole cell)
within_cell part whole cell is_box inside =
    elim (cases_lt cell (length part.lows)) [
      | inl there ↦ record { ordered = inside.is_box.ordered cell there; from_low = inside.from_low cell there; to_high = inside.to_high cell there }
      | inr past ↦
          let a = missing part.lows cell past in
          let b = missing part.highs cell (omega (arith, past, inside.is_box.paired)) in
          let c = missing whole.lows cell (omega (arith, past, inside.same_cells)) in
          let d = missing whole.highs cell (omega (arith, past, inside.same_cells, is_box.paired)) in
          record { ordered = omega (arith, ints, a, b); from_low = omega (arith, ints, a, c); to_high = omega (arith, ints, b, d) }
    ]

pub within_cells : (part whole : Box) (cells : List Coefficient) → IsBox whole → Inside part whole → Within (cells_ends part cells) (cells_ends whole cells)
within_cells part whole [] is_box inside = within_exactly (pos 0)
within_cells part whole (c ∷ later) is_box inside =
    within_plus (scaled c.k (cell_ends part c.cell)) (cells_ends part later) (scaled c.k (cell_ends whole c.cell)) (cells_ends whole later)
    (within_scaled c.k (cell_ends part c.cell) (cell_ends whole c.cell) (within_cell part whole c.cell is_box inside)) (within_cells part whole later is_box inside)

pub within_whole : (part b : Box) (f : Form) (a c : Ends) → IsBox b → Inside part b → Within a c → Within (whole part f a) (whole b f c)
within_whole part b f a c is_box inside p =
    within_plus (exactly f.constant) (plus (cells_ends part f.cells) a) (exactly f.constant) (plus (cells_ends b f.cells) c) (within_exactly f.constant)
    (within_plus (cells_ends part f.cells) a (cells_ends b f.cells) c (within_cells part b f.cells is_box inside) p)

below_zero : (z : ℤ) → int_lt z (pos 0) ≡ true → z <ℤ pos 0
below_zero z below = grind (arith, ints)

not_below_zero : (z : ℤ) → int_lt z (pos 0) ≡ false → pos 0 ≤ℤ z
not_below_zero z above = grind (arith, ints)

above_zero : (z : ℤ) → int_lt (pos 0) z ≡ true → pos 0 <ℤ z
above_zero z above = grind (arith, ints)

not_above_zero : (z : ℤ) → int_lt (pos 0) z ≡ false → z ≤ℤ pos 0
not_above_zero z below = grind (arith, ints)

-- remainders
abbrev rem_low : ℤ → ℕ → ℤ
rem_low z m = if int_lt z (pos 0) then int_max z (pos 1 -ℤ pos m) else pos 0

abbrev rem_high : ℤ → ℕ → ℤ
rem_high z m = if int_lt (pos 0) z then int_min z (pos m -ℤ pos 1) else pos 0

rem_low_order : (x y : ℤ) (m : ℕ) → 0 < m → x ≤ℤ y → rem_low x m ≤ℤ rem_low y m
rem_low_order x y m divisor order =
    by_if (λ z. rem_low x m ≤ℤ z) (int_lt y (pos 0)) (int_max y (pos 1 -ℤ pos m)) (pos 0)
    (λ y_below.
    let y_negative = below_zero y y_below in
    by_if (λ z. z ≤ℤ int_max y (pos 1 -ℤ pos m)) (int_lt x (pos 0)) (int_max x (pos 1 -ℤ pos m)) (pos 0)
    (λ x_below. omega (arith, ints, clamps))
    (λ x_above. let x_positive = not_below_zero x x_above in absurd (omega (arith, ints))))
    (λ y_above.
    by_if (λ z. z ≤ℤ pos 0) (int_lt x (pos 0)) (int_max x (pos 1 -ℤ pos m)) (pos 0)
    (λ x_below. let x_negative = below_zero x x_below in omega (arith, ints, clamps))
    (λ x_above. omega (arith, ints)))

rem_high_order : (x y : ℤ) (m : ℕ) → 0 < m → x ≤ℤ y → rem_high x m ≤ℤ rem_high y m
rem_high_order x y m divisor order =
    by_if (λ z. rem_high x m ≤ℤ z) (int_lt (pos 0) y) (int_min y (pos m -ℤ pos 1)) (pos 0)
    (λ y_above.
    let y_positive = above_zero y y_above in
    by_if (λ z. z ≤ℤ int_min y (pos m -ℤ pos 1)) (int_lt (pos 0) x) (int_min x (pos m -ℤ pos 1)) (pos 0)
    (λ x_above. omega (arith, ints, clamps))
    (λ x_below. omega (arith, ints, clamps)))
    (λ y_below.
    let y_negative = not_above_zero y y_below in
    by_if (λ z. z ≤ℤ pos 0) (int_lt (pos 0) x) (int_min x (pos m -ℤ pos 1)) (pos 0)
    (λ x_above. let x_positive = above_zero x x_above in absurd (omega (arith, ints)))
    (λ x_below. omega (arith, ints)))

many_within : (k : ℤ) (a c : Ends) → Within a c → int_eq (int_div a.low k) (int_div a.high k) ≡ false
    → Within (ends (rem_low a.low (unsigned_abs k)) (rem_high a.high (unsigned_abs k))) (remainders c k)
many_within k a c p differ =
    let divisor = divides a.low a.high k differ in
    let own : Lies a.low a = record { from_low = omega (arith, ints); to_high = p.ordered } in
    let low = remainder_low k a.low a own divisor in
    let high = remainder_high k a.low a own divisor in
    by_if (Within (ends (rem_low a.low (unsigned_abs k)) (rem_high a.high (unsigned_abs k)))) (int_eq (int_div c.low k) (int_div c.high k)) (ends (int_rem c.low k) (int_rem c.high k))
    (ends (rem_low c.low (unsigned_abs k)) (rem_high c.high (unsigned_abs k)))
    (λ same.
    let one = equal_tested (int_div c.low k) (int_div c.high k) same in
    let at_low = squeezed k a.low c (low_lies a c p) one in
    let at_high = squeezed k a.high c (high_lies a c p) one in
    let test = equal_tests (int_div a.low k) (int_div a.high k) (at_low ∙ sym at_high) in
    absurd (cc))
    (λ other. record {
      ordered = omega (arith, ints, low, high);
      from_low = rem_low_order c.low a.low (unsigned_abs k) divisor p.from_low;
      to_high = rem_high_order a.high c.high (unsigned_abs k) divisor p.to_high;
    })

pub within_remainders : (k : ℤ) (a c : Ends) → Within a c → Within (remainders a k) (remainders c k)
within_remainders k a c p =
    by_if (λ (r : Ends). Within r (remainders c k)) (int_eq (int_div a.low k) (int_div a.high k)) (ends (int_rem a.low k) (int_rem a.high k))
    (ends (rem_low a.low (unsigned_abs k)) (rem_high a.high (unsigned_abs k)))
    (λ same.
    let one = one_quotient k a.low a (record { from_low = omega (arith, ints); to_high = p.ordered }) (equal_tested (int_div a.low k) (int_div a.high k) same) in
    let low = in_remainders k a.low c (low_lies a c p) in
    let high = in_remainders k a.high c (high_lies a c p) in
    record { ordered = one.to_high; from_low = low.from_low; to_high = high.to_high })
    (λ differ. many_within k a c p differ)

-- what is made of one number
pub within_made : (op : Operation) (a c : Ends) → Within a c → Within (made op a) (made op c)
within_made (Quotient divisor) a c p = within_quotients divisor.number a c p
within_made (Remainder divisor) a c p = within_remainders divisor.number a c p
within_made Size a c p = within_image size_of size_turns a c p

-- marks
pub sharper_both : (m n k l : Defined) → Sharper m k → Sharper n l → Sharper (both m n) (both k l)
sharper_both Never n Never l p q = tt
sharper_both Maybe n Never l p q = absurd p
sharper_both Always n Never l p q = absurd p
sharper_both Never n Maybe Never p q = tt
sharper_both Maybe Never Maybe Never p q = tt
sharper_both Maybe Maybe Maybe Never p q = absurd q
sharper_both Maybe Always Maybe Never p q = absurd q
sharper_both Always Never Maybe Never p q = tt
sharper_both Always Maybe Maybe Never p q = absurd q
sharper_both Always Always Maybe Never p q = absurd q
sharper_both m n Maybe Maybe p q = tt
sharper_both m n Maybe Always p q = tt
sharper_both Never n Always l p q = absurd p
sharper_both Maybe n Always l p q = absurd p
sharper_both Always n Always l p q = q

-- truths
pub surer_not : (s t : Truth) → Surer s t → Surer (opposite s) (opposite t)
surer_not s Unknown p = tt
surer_not False False p = tt
surer_not Unknown False p = absurd p
surer_not True False p = absurd p
surer_not False True p = absurd p
surer_not Unknown True p = absurd p
surer_not True True p = tt

pub surer_and : (s t k l : Truth) → Surer s k → Surer t l → Surer (and_truth s t) (and_truth k l)
surer_and False t False l p q = tt
surer_and Unknown t False l p q = absurd p
surer_and True t False l p q = absurd p
surer_and False t Unknown False p q = tt
surer_and Unknown False Unknown False p q = tt
surer_and Unknown Unknown Unknown False p q = absurd q
surer_and Unknown True Unknown False p q = absurd q
surer_and True False Unknown False p q = tt
surer_and True Unknown Unknown False p q = absurd q
surer_and True True Unknown False p q = absurd q
surer_and s t Unknown Unknown p q = tt
surer_and s t Unknown True p q = tt
surer_and False t True l p q = absurd p
surer_and Unknown t True l p q = absurd p
surer_and True t True l p q = q

pub surer_or : (s t k l : Truth) → Surer s k → Surer t l → Surer (or_truth s t) (or_truth k l)
surer_or True t True l p q = tt
surer_or Unknown t True l p q = absurd p
surer_or False t True l p q = absurd p
surer_or True t Unknown True p q = tt
surer_or Unknown True Unknown True p q = tt
surer_or Unknown Unknown Unknown True p q = absurd q
surer_or Unknown False Unknown True p q = absurd q
surer_or False True Unknown True p q = tt
surer_or False Unknown Unknown True p q = absurd q
surer_or False False Unknown True p q = absurd q
surer_or s t Unknown Unknown p q = tt
surer_or s t Unknown False p q = tt
surer_or False t False l p q = q
surer_or Unknown t False l p q = absurd p
surer_or True t False l p q = absurd p

pub within_truth : (s t : Truth) → Surer s t → Within (truth_ends s) (truth_ends t)
within_truth False Unknown p = record { ordered = omega (arith, ints); from_low = omega (arith, ints); to_high = omega (arith, ints) }
within_truth Unknown Unknown p = record { ordered = omega (arith, ints); from_low = omega (arith, ints); to_high = omega (arith, ints) }
within_truth True Unknown p = record { ordered = omega (arith, ints); from_low = omega (arith, ints); to_high = omega (arith, ints) }
within_truth False False p = record { ordered = omega (arith, ints); from_low = omega (arith, ints); to_high = omega (arith, ints) }
within_truth Unknown False p = absurd p
within_truth True False p = absurd p
within_truth False True p = absurd p
within_truth Unknown True p = absurd p
within_truth True True p = record { ordered = omega (arith, ints); from_low = omega (arith, ints); to_high = omega (arith, ints) }

-- what fails or holds over a box does so over each part, and not both
pub surer_judged : (m n : Defined) (fails holds fails_whole holds_whole : Bool) → Sharper m n → (fails_whole ≡ true → fails ≡ true) → (holds_whole ≡ true → holds ≡ true)
    → (holds ≡ true → fails ≡ false) → Surer (judged m fails holds) (judged n fails_whole holds_whole)
surer_judged Never Never f h g k p wrong right apart = tt
surer_judged Maybe Never f h g k p wrong right apart = absurd p
surer_judged Always Never f h g k p wrong right apart = absurd p
surer_judged m Maybe f h false k p wrong right apart = tt
surer_judged Never Maybe f h true k p wrong right apart = tt
surer_judged Maybe Maybe true h true k p wrong right apart = tt
surer_judged Maybe Maybe false h true k p wrong right apart = absurd (impossible (sym (wrong refl)))
surer_judged Always Maybe true h true k p wrong right apart = tt
surer_judged Always Maybe false h true k p wrong right apart = absurd (impossible (sym (wrong refl)))
surer_judged Never Always f h g k p wrong right apart = absurd p
surer_judged Maybe Always f h g k p wrong right apart = absurd p
surer_judged Always Always true h true k p wrong right apart = tt
surer_judged Always Always false h true k p wrong right apart = absurd (impossible (sym (wrong refl)))
surer_judged Always Always f false false true p wrong right apart = absurd (impossible (sym (right refl)))
surer_judged Always Always true true false true p wrong right apart = absurd (impossible (apart refl))
surer_judged Always Always false true false true p wrong right apart = tt
surer_judged Always Always f h false false p wrong right apart = tt

-- comparisons
none_narrows : (op : CmpOp) (a c : Ends) → Within a c → none_compares op c ≡ true → none_compares op a ≡ true
none_narrows Eq a c p none = grind (arith, ints)
none_narrows Ne a c p none = grind (arith, ints)
none_narrows Lt a c p none = grind (arith, ints)
none_narrows Le a c p none = grind (arith, ints)
none_narrows Gt a c p none = grind (arith, ints)
none_narrows Ge a c p none = grind (arith, ints)

all_narrow : (op : CmpOp) (a c : Ends) → Within a c → all_compare op c ≡ true → all_compare op a ≡ true
all_narrow Eq a c p all = grind (arith, ints)
all_narrow Ne a c p all = grind (arith, ints)
all_narrow Lt a c p all = grind (arith, ints)
all_narrow Le a c p all = grind (arith, ints)
all_narrow Gt a c p all = grind (arith, ints)
all_narrow Ge a c p all = grind (arith, ints)

not_both : (op : CmpOp) (a c : Ends) → Within a c → all_compare op a ≡ true → none_compares op a ≡ false
not_both Eq a c p all = grind (arith, ints)
not_both Ne a c p all = grind (arith, ints)
not_both Lt a c p all = grind (arith, ints)
not_both Le a c p all = grind (arith, ints)
not_both Gt a c p all = grind (arith, ints)
not_both Ge a c p all = grind (arith, ints)

pub surer_compared : (op : CmpOp) (a c : Ends) (m n : Defined) → Within a c → Sharper m n → Surer (compared op a m) (compared op c n)
surer_compared op a c m n p q =
    surer_judged m n (none_compares op a) (all_compare op a) (none_compares op c) (all_compare op c) q (none_narrows op a c p) (all_narrow op a c p) (not_both op a c p)

-- products, and what folds
pub within_product : (part b : Box) (f g : Form) (a c d e : Ends) → IsBox b → Inside part b → Within a d → Within c e → Within (product_atoms part f g a c) (product_atoms b f g d e)
within_product part b f g a c d e is_box inside p q =
    by_bool (λ constant. Within (if constant then scaled f.constant c else if is_constant g then scaled g.constant a else times (whole part f a) (whole part g c))
    (if constant then scaled f.constant e else if is_constant g then scaled g.constant d else times (whole b f d) (whole b g e))) (is_constant f)
    (λ constant. within_scaled f.constant c e q)
    (λ other.
    by_bool (λ constant. Within (if constant then scaled g.constant a else times (whole part f a) (whole part g c)) (if constant then scaled g.constant d else times (whole b f d) (whole b g e)))
    (is_constant g)
    (λ constant. within_scaled g.constant a d p)
    (λ neither. within_times (whole part f a) (whole part g c) (whole b f d) (whole b g e) (within_whole part b f a d is_box inside p) (within_whole part b g c e is_box inside q)))

pub within_folded : (fold : Bool) (a c : Ends) → Within a c → Within (unless_folded fold a) (unless_folded fold c)
within_folded true a c p = within_exactly (pos 0)
within_folded false a c p = p

pub within_difference : (part b : Box) (f g : Form) (a c d e : Ends) → IsBox b → Inside part b → Within a d → Within c e → Within (difference_ends part f g a c) (difference_ends b f g d e)
within_difference part b f g a c d e is_box inside p q =
    within_whole part b (plus_form (negsuc 0) f g) (plus a (scaled (negsuc 0) c)) (plus d (scaled (negsuc 0) e)) is_box inside
    (within_plus a (scaled (negsuc 0) c) d (scaled (negsuc 0) e) p (within_scaled (negsuc 0) c e q))

-- several
abbrev pub AllWithin : List Ends → List Ends → Type 0
AllWithin [] [] = Unit {0}
AllWithin [] (c ∷ wide) = ⊥
AllWithin (a ∷ narrow) [] = ⊥
AllWithin (a ∷ narrow) (c ∷ wide) = Within a c × AllWithin narrow wide

pub within_fold : (pick : Ends → Ends → Ends) (a c : Ends) (narrow wide : List Ends) → ((a b c d : Ends) → Within a c → Within b d → Within (pick a b) (pick c d)) → Within a c
    → AllWithin narrow wide → Within (fold pick a narrow) (fold pick c wide)
within_fold pick a c [] [] goes p all = p
within_fold pick a c [] (d ∷ wide) goes p all = absurd all
within_fold pick a c (b ∷ narrow) [] goes p all = absurd all
within_fold pick a c (b ∷ narrow) (d ∷ wide) goes p all =
    within_fold pick (pick a b) (pick c d) narrow wide goes (goes a b c d p all.0) all.1
