-- Intervals, marks and truths on a box of one point.
use Rattle.std.proofs.Common.{◌≡◌, inl, inr, ℕ, ℤ, pos, negsuc, ◌*ℤ◌, int_le, Bool, true, false, if◌then◌else◌, List, [], ◌∷◌, length, arith, refl, sym, ap, ap₂, ◌∙◌}
use Rattle.std.specs.List.{fold}
use Rattle.std.specs.Int.RustNames.{int_div, int_rem}
use Rattle.std.specs.Ordering.{int_eq}
use Rattle.std.proofs.lemmas.Int.{ints, clamps}
use Rattle.std.proofs.lemmas.Bool.{cases_lt}
use Rattle.sopl_base.specs.declared.comparison.CmpOp.{CmpOp}
use Rattle.sopl_base.specs.declared.comparison.CmpOp.TheVariants.{Eq, Ne, Lt, Le, Gt, Ge}
use Rattle.sopl_base.specs.declared.extreme.Extreme.{Extreme}
use Rattle.sopl_base.specs.Extremes.{chosen_by}
use Rattle.term_language.specs.declared.made.Operation.{Operation}
use Rattle.term_language.specs.declared.made.Operation.TheVariants.{Quotient, Remainder, Size}
use Rattle.sopl_base.proofs.Tests.{le_tested}
use Rattle.box_problem.specs.Box.{Box, IsBox, IsPoint}
use Rattle.term_language.specs.declared.answers.Defined.{Defined}
use Rattle.term_language.specs.declared.answers.Defined.TheVariants.{Never, Maybe, Always}
use Rattle.term_language.specs.declared.answers.Truth.{Truth}
use Rattle.term_language.specs.declared.answers.Truth.TheVariants.{False, Unknown, True}
use Rattle.term_language.specs.Ends.{Ends, has, ends, exactly, plus, between, hull, scaled, times, quotients, remainders, size_of, image, made, picked, cell_ends}
use Rattle.term_language.specs.Forms.{Coefficient, Form, is_constant, cells_ends, whole, plus_form}
use Rattle.term_language.specs.Marks.{both, opposite, and_truth, or_truth, truth_ends, judged, none_compares, all_compare, compared}
use Rattle.term_language.specs.Rules.{unless_folded, product_atoms, difference_ends}
use Rattle.term_language.specs.Laws.{Exact, IsKnown}
use Rattle.term_language.proofs.FormValues.{by_if, missing, and_first, and_second}
use Rattle.term_language.proofs.Operations.{equal_tests}

-- one number
abbrev pub IsOne : Ends → Type 0
IsOne a = a.low ≡ a.high

pub exact_map : (m : Defined) (P Q : Type 0) → (P → Q) → Exact m P → Exact m Q
exact_map Never P Q goes p = tt
exact_map Maybe P Q goes p = absurd p
exact_map Always P Q goes p = goes p

pub exact_both : (m n : Defined) (P Q R : Type 0) → (P → Q → R) → Exact m P → Exact n Q → Exact (both m n) R
exact_both Never n P Q R goes p q = tt
exact_both Maybe n P Q R goes p q = absurd p
exact_both Always Never P Q R goes p q = tt
exact_both Always Maybe P Q R goes p q = absurd q
exact_both Always Always P Q R goes p q = goes p q

-- operations on one number each
one_plus : (a c : Ends) → IsOne a → IsOne c → IsOne (plus a c)
one_plus a c p q = omega (arith, ints, p, q)

one_between : (x y : ℤ) → x ≡ y → IsOne (between x y)
one_between x y p = omega (arith, ints, clamps, p)

one_scaled : (k : ℤ) (a : Ends) → IsOne a → IsOne (scaled k a)
one_scaled k a p = one_between (k *ℤ a.low) (k *ℤ a.high) (ap (λ z. k *ℤ z) p)

one_times : (a c : Ends) → IsOne a → IsOne c → IsOne (times a c)
one_times a c p q =
    let first = one_scaled a.low c q in
    let second = one_scaled a.high c q in
    let same = ap (λ z. z *ℤ c.low) p in
    let same_high = ap (λ z. z *ℤ c.high) p in
    omega (arith, ints, clamps, first, second, same, same_high)

pub one_quotients : (k : ℤ) (a : Ends) → IsOne a → IsOne (quotients a k)
one_quotients k a p = one_between (int_div a.low k) (int_div a.high k) (ap (λ z. int_div z k) p)

pub one_remainders : (k : ℤ) (a : Ends) → IsOne a → IsOne (remainders a k)
one_remainders k a p =
    by_if IsOne (int_eq (int_div a.low k) (int_div a.high k)) (ends (int_rem a.low k) (int_rem a.high k)) _
    (λ same. ap (λ z. int_rem z k) p)
    (λ differ. let test = equal_tests (int_div a.low k) (int_div a.high k) (ap (λ z. int_div z k) p) in absurd (cc))

pub one_picked : (which : Extreme) (a c : Ends) → IsOne a → IsOne c → IsOne (picked which a c)
one_picked which a c p q = ap₂ (chosen_by which) p q

-- an image of one number is what is made of it
pub image_exactly : (f : ℤ → ℤ) (a : Ends) → IsOne a → ((image f a).low ≡ f a.low) × ((image f a).high ≡ f a.low)
image_exactly f a p =
    let same = ap f p in
    by_if (λ (e : Ends). (e.low ≡ f a.low) × (e.high ≡ f a.low)) (has a (pos 0)) (hull (exactly (f (pos 0))) (between (f a.low) (f a.high))) (between (f a.low) (f a.high))
    (λ inside.
    let from = le_tested a.low (pos 0) (and_first (int_le a.low (pos 0)) (int_le (pos 0) a.high) inside) in
    let to = le_tested (pos 0) a.high (and_second (int_le a.low (pos 0)) (int_le (pos 0) a.high) inside) in
    let none : a.low ≡ pos 0 = omega (arith, ints, from, to, p) in
    let zero = ap f none in
    (omega (arith, ints, clamps, zero, same), omega (arith, ints, clamps, zero, same)))
    (λ outside. (omega (arith, ints, clamps, same), omega (arith, ints, clamps, same)))

pub one_made : (op : Operation) (a : Ends) → IsOne a → IsOne (made op a)
one_made (Quotient divisor) a p = one_quotients divisor.number a p
one_made (Remainder divisor) a p = one_remainders divisor.number a p
one_made Size a p = let both = image_exactly size_of a p in both.0 ∙ sym both.1

pub one_folded : (fold : Bool) (a : Ends) → IsOne a → IsOne (unless_folded fold a)
one_folded true a p = refl
one_folded false a p = p

-- cells and forms
pub one_cell : (b : Box) (cell : ℕ) → IsBox b → IsPoint b → IsOne (cell_ends b cell)
one_cell b cell is_box one =
    elim (cases_lt cell (length b.lows)) [
      | inl there ↦ one cell there
      | inr past ↦ missing b.lows cell past ∙ sym (missing b.highs cell (omega (arith, past, is_box.paired)))
    ]

one_cells : (b : Box) (cells : List Coefficient) → IsBox b → IsPoint b → IsOne (cells_ends b cells)
one_cells b [] is_box one = refl
one_cells b (c ∷ later) is_box one =
    one_plus (scaled c.k (cell_ends b c.cell)) (cells_ends b later) (one_scaled c.k (cell_ends b c.cell) (one_cell b c.cell is_box one)) (one_cells b later is_box one)

pub one_whole : (b : Box) (f : Form) (a : Ends) → IsBox b → IsPoint b → IsOne a → IsOne (whole b f a)
one_whole b f a is_box one p =
    one_plus (exactly f.constant) (plus (cells_ends b f.cells) a) refl (one_plus (cells_ends b f.cells) a (one_cells b f.cells is_box one) p)

one_product : (b : Box) (f g : Form) (a c : Ends) → IsBox b → IsPoint b → IsOne a → IsOne c → IsOne (product_atoms b f g a c)
one_product b f g a c is_box one p q =
    by_if IsOne (is_constant f) (scaled f.constant c) (if is_constant g then scaled g.constant a else times (whole b f a) (whole b g c))
    (λ constant. one_scaled f.constant c q)
    (λ other.
    by_if IsOne (is_constant g) (scaled g.constant a) (times (whole b f a) (whole b g c))
    (λ constant. one_scaled g.constant a p)
    (λ neither. one_times (whole b f a) (whole b g c) (one_whole b f a is_box one p) (one_whole b g c is_box one q)))

-- several
abbrev pub AllOne : List Ends → Type 0
AllOne [] = Unit {0}
AllOne (a ∷ later) = IsOne a × AllOne later

one_fold : (pick : Ends → Ends → Ends) (a : Ends) (later : List Ends) → ((x y : Ends) → IsOne x → IsOne y → IsOne (pick x y)) → IsOne a → AllOne later → IsOne (fold pick a later)
one_fold pick a [] goes p all = p
one_fold pick a (c ∷ later) goes p all = one_fold pick (pick a c) later goes (goes a c p all.0) all.1

-- truths
pub known_not : (t : Truth) → IsKnown t → IsKnown (opposite t)
known_not False p = tt
known_not Unknown p = absurd p
known_not True p = tt

pub known_and : (s t : Truth) → IsKnown s → IsKnown t → IsKnown (and_truth s t)
known_and False t p q = tt
known_and Unknown t p q = absurd p
known_and True t p q = q

pub known_or : (s t : Truth) → IsKnown s → IsKnown t → IsKnown (or_truth s t)
known_or True t p q = tt
known_or Unknown t p q = absurd p
known_or False t p q = q

pub one_truth : (t : Truth) → IsKnown t → IsOne (truth_ends t)
one_truth False p = refl
one_truth Unknown p = absurd p
one_truth True p = refl

all_or_none : (op : CmpOp) (a : Ends) → IsOne a → none_compares op a ≡ false → all_compare op a ≡ true
all_or_none Eq a p some = grind (arith, ints)
all_or_none Ne a p some = grind (arith, ints)
all_or_none Lt a p some = grind (arith, ints)
all_or_none Le a p some = grind (arith, ints)
all_or_none Gt a p some = grind (arith, ints)
all_or_none Ge a p some = grind (arith, ints)

known_always : (fails holds : Bool) → (fails ≡ false → holds ≡ true) → IsKnown (judged Always fails holds)
known_always true holds right = tt
known_always false true right = tt
known_always false false right = absurd (cc (right refl))

pub known_judged : (m : Defined) (fails holds : Bool) → Exact m (fails ≡ false → holds ≡ true) → IsKnown (judged m fails holds)
known_judged Never fails holds p = tt
known_judged Maybe fails holds p = absurd p
known_judged Always fails holds p = known_always fails holds p

-- each operation, where its operands are exact
pub exact_one : (b : Box) (fold : Bool) (ends_of : Ends → Ends) (f : Form) (a : Ends) (m : Defined) → ((e : Ends) → IsOne e → IsOne (ends_of e)) → IsBox b → IsPoint b → Exact m (IsOne a)
    → Exact m (IsOne (unless_folded fold (ends_of (whole b f a))))
exact_one b fold ends_of f a m goes is_box one p =
    exact_map m (IsOne a) (IsOne (unless_folded fold (ends_of (whole b f a))))
    (λ q. one_folded fold (ends_of (whole b f a)) (goes (whole b f a) (one_whole b f a is_box one q))) p

pub exact_product : (b : Box) (f g : Form) (a c : Ends) (m n : Defined) → IsBox b → IsPoint b → Exact m (IsOne a) → Exact n (IsOne c) → Exact (both m n) (IsOne (product_atoms b f g a c))
exact_product b f g a c m n is_box one p q =
    exact_both m n (IsOne a) (IsOne c) (IsOne (product_atoms b f g a c)) (one_product b f g a c is_box one) p q

pub exact_extreme : (b : Box) (fold_it : Bool) (pick : Ends → Ends → Ends) (f : Form) (a : Ends) (later : List Ends) (m n : Defined) → ((x y : Ends) → IsOne x → IsOne y → IsOne (pick x y))
    → IsBox b → IsPoint b → Exact m (IsOne a) → Exact n (AllOne later) → Exact (both m n) (IsOne (unless_folded fold_it (fold pick (whole b f a) later)))
exact_extreme b fold_it pick f a later m n goes is_box one p q =
    exact_both m n (IsOne a) (AllOne later) (IsOne (unless_folded fold_it (fold pick (whole b f a) later)))
    (λ x all. one_folded fold_it (fold pick (whole b f a) later) (one_fold pick (whole b f a) later goes (one_whole b f a is_box one x) all)) p q

pub exact_part : (k : ℤ) (a c : Ends) (m n : Defined) → Exact m (IsOne a) → Exact n (IsOne c) → Exact (both m n) (IsOne (plus (scaled k a) c))
exact_part k a c m n p q =
    exact_both m n (IsOne a) (IsOne c) (IsOne (plus (scaled k a) c)) (λ x y. one_plus (scaled k a) c (one_scaled k a x) y) p q

pub exact_more : (b : Box) (f : Form) (a : Ends) (later : List Ends) (m n : Defined) → IsBox b → IsPoint b → Exact m (IsOne a) → Exact n (AllOne later)
    → Exact (both m n) (AllOne (whole b f a ∷ later))
exact_more b f a later m n is_box one p q =
    exact_both m n (IsOne a) (AllOne later) (AllOne (whole b f a ∷ later)) (λ x all. (one_whole b f a is_box one x, all)) p q

pub known_compared : (b : Box) (op : CmpOp) (f g : Form) (a c : Ends) (m n : Defined) → IsBox b → IsPoint b → Exact m (IsOne a) → Exact n (IsOne c)
    → IsKnown (compared op (difference_ends b f g a c) (both m n))
known_compared b op f g a c m n is_box one p q =
    let d = difference_ends b f g a c in
    known_judged (both m n) (none_compares op d) (all_compare op d)
    (exact_both m n (IsOne a) (IsOne c) (none_compares op d ≡ false → all_compare op d ≡ true)
    (λ x y. all_or_none op d (one_whole b (plus_form (negsuc 0) f g) (plus a (scaled (negsuc 0) c)) is_box one (one_plus a (scaled (negsuc 0) c) x (one_scaled (negsuc 0) c y)))) p q)
