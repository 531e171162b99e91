-- The boxes of two nodes that are not split have no point in common.
use Rattle.std.proofs.Common.{◌≡◌, inl, inr, ℕ, zero, suc, ◌<◌, ◌≤◌, ℤ, List, length, Option, Some, None, arith, refl, sym, ap, subst, ◌∙◌}
use Rattle.std.proofs.lemmas.Bool.{cases_eq}
use Rattle.sopl_base.specs.declared.reason.Side.{Side}
use Rattle.sopl_base.specs.declared.reason.Side.TheVariants.{Le, Ge}
use Rattle.log_rows.specs.declared.rows.Row.{Row}
use Rattle.log_rows.specs.declared.rows.Parent.{Parent}
use Rattle.log_rows.specs.declared.rows.EndLine.{EndLine}
use Rattle.log_rows.specs.declared.rows.EndLine.TheVariants.{Refuted, Split, Point, Unfinished}
use Rattle.log_rows.specs.declared.rows.Footer.{Footer}
use Rattle.box_problem.specs.Box.{Box, IsBox, Inside, InBox}
use Rattle.box_problem.specs.BoxProblem.{BoxProblem, Lawful}
use Rattle.box_problem.proofs.Boxes.{points_of_parts, parts_of_parts}
use Rattle.box_problem.proofs.Cuts.{cuts_separate}
use Rattle.box_problem.proofs.Steps.{steps_lead_inside}
use Rattle.log_rows.specs.Rows.{row_at, handed, final_of, start_of, box_at, IsSplit, Hangs}
use Rattle.log_rows.specs.Accepted.{claimed, AreRight}
use Rattle.log_rows.proofs.Places.{final_is}
use Rattle.log_rows.proofs.Insides.{Cuts, handed_inside, AreSound, begins_inside, right_sound}
use Rattle.log_rows.proofs.Growing.{some_side, IsNewSide, hung}

-- two boxes without a point in common
abbrev Apart : Box → Box → Type 0
Apart b c = (point : List ℤ) → InBox b point → ¬ InBox c point

turned : (b c : Box) → Apart b c → Apart c b
turned b c apart = λ point q r. apart point r q

within_right : (b c d : Box) → Apart b c → Inside d c → Apart b d
within_right b c d apart inside = λ point q r. apart point q (points_of_parts d c point inside r)

-- behind the first n rows: nodes that are not split, and those that hang there, have no point in common
record AreParted (problem : BoxProblem) (rows : List Row) (n : ℕ) : Type 0 where
  leaves : (i j : ℕ) → i < n → j < n → ¬ i ≡ j → ¬ IsSplit (row_at rows i).end → ¬ IsSplit (row_at rows j).end → Apart (final_of problem.root rows i) (final_of problem.root rows j)
  mixed : (i : ℕ) (p : Option Parent) → i < n → ¬ IsSplit (row_at rows i).end → Hangs rows n p → Apart (final_of problem.root rows i) (box_at problem.root rows p)
  sides : (p q : Option Parent) → Hangs rows n p → Hangs rows n q → ¬ p ≡ q → Apart (box_at problem.root rows p) (box_at problem.root rows q)

both_first : (rows : List Row) (p q : Option Parent) → Hangs rows 0 p → Hangs rows 0 q → p ≡ q
both_first rows None None first second = refl
both_first rows (Some p) q first second = absurd (omega (arith, first.earlier))
both_first rows None (Some q) first second = absurd (omega (arith, second.earlier))

parted_first : (problem : BoxProblem) (rows : List Row) → AreParted problem rows 0
parted_first problem rows = record {
  leaves = λ i j before. absurd (omega arith);
  mixed = λ i p before. absurd (omega arith);
  sides = λ p q first second differs. absurd (differs (both_first rows p q first second));
}

-- the row that comes next: it hangs, and ends inside the box with which it begins
record IsRow (problem : BoxProblem) (rows : List Row) (n : ℕ) : Type 0 where
  hangs : Hangs rows n (row_at rows n).parent
  inside : Inside (final_of problem.root rows n) (box_at problem.root rows (row_at rows n).parent)
  cuts : Cuts (final_of problem.root rows n) (row_at rows n).end

-- the box of a new side lies inside the row's last one, and so inside its first one
side_inside : (problem : BoxProblem) (rows : List Row) (n : ℕ) (p : Option Parent) → IsRow problem rows n → IsNewSide rows n p
    → Inside (box_at problem.root rows p) (box_at problem.root rows (row_at rows n).parent)
side_inside problem rows n p row new =
    let b = final_of problem.root rows n in
    let end = (row_at rows n).end in
    subst (λ (q : Option Parent). Inside (box_at problem.root rows q) (box_at problem.root rows (row_at rows n).parent)) (sym new.is)
    (parts_of_parts (handed b end new.side) b (box_at problem.root rows (row_at rows n).parent) (handed_inside b end new.side row.inside.is_box row.cuts) row.inside)

-- the two sides of a split
halves_apart : (b : Box) (end : EndLine) (s t : Side) → IsBox b → Cuts b end → IsSplit end → ¬ s ≡ t → Apart (handed b end s) (handed b end t)
halves_apart b (Refuted reason) s t is_box cuts split differs = absurd split
halves_apart b (Split cut) Le Le is_box cuts split differs = absurd (differs refl)
halves_apart b (Split cut) Le Ge is_box cuts split differs = λ point q r. cuts_separate b cut.cell Le cut.k point is_box cuts q r
halves_apart b (Split cut) Ge Le is_box cuts split differs = λ point q r. cuts_separate b cut.cell Le cut.k point is_box cuts r q
halves_apart b (Split cut) Ge Ge is_box cuts split differs = absurd (differs refl)
halves_apart b Point s t is_box cuts split differs = absurd split
halves_apart b Unfinished s t is_box cuts split differs = absurd split

new_sides : (problem : BoxProblem) (rows : List Row) (n : ℕ) (p q : Option Parent) → IsRow problem rows n → IsNewSide rows n p → IsNewSide rows n q → ¬ p ≡ q
    → Apart (box_at problem.root rows p) (box_at problem.root rows q)
new_sides problem rows n p q row first second differs =
    let b = final_of problem.root rows n in
    let end = (row_at rows n).end in
    let apart = halves_apart b end first.side second.side row.inside.is_box row.cuts first.split (λ same. differs (first.is ∙ (ap (some_side n) same ∙ sym second.is))) in
    subst (λ (r : Option Parent). Apart (box_at problem.root rows r) (box_at problem.root rows q)) (sym first.is)
    (subst (λ (r : Option Parent). Apart (handed b end first.side) (box_at problem.root rows r)) (sym second.is) apart)

-- one row more
leaves_more : (problem : BoxProblem) (rows : List Row) (n i j : ℕ) → AreParted problem rows n → IsRow problem rows n → i < suc n → j < suc n → ¬ i ≡ j → ¬ IsSplit (row_at rows i).end
    → ¬ IsSplit (row_at rows j).end
    → Apart (final_of problem.root rows i) (final_of problem.root rows j)
leaves_more problem rows n i j parted row first second differs leaf other =
    let P = (row_at rows n).parent in
    let final = final_of problem.root rows in
    elim (cases_eq i n) [
      | inl last ↦ subst (λ (k : ℕ). Apart (final k) (final j)) (sym last)
          (turned (final j) (final n) (within_right (final j) (box_at problem.root rows P) (final n) (parted.mixed j P (omega (arith, last, differs)) other row.hangs) row.inside))
      | inr before ↦ elim (cases_eq j n) [
        | inl last ↦ subst (λ (k : ℕ). Apart (final i) (final k)) (sym last)
            (within_right (final i) (box_at problem.root rows P) (final n) (parted.mixed i P (omega (arith, before)) leaf row.hangs) row.inside)
        | inr earlier ↦ parted.leaves i j (omega (arith, before)) (omega (arith, earlier)) differs leaf other
      ]
    ]

mixed_more : (problem : BoxProblem) (rows : List Row) (n i : ℕ) (p : Option Parent) → AreParted problem rows n → IsRow problem rows n → i < suc n → ¬ IsSplit (row_at rows i).end → Hangs rows (suc n) p
    → Apart (final_of problem.root rows i) (box_at problem.root rows p)
mixed_more problem rows n i p parted row first leaf hangs =
    let P = (row_at rows n).parent in
    let final = final_of problem.root rows in
    let box = box_at problem.root rows in
    elim (hung rows n p hangs) [
      | inl old ↦ elim (cases_eq i n) [
        | inl last ↦ subst (λ (k : ℕ). Apart (final k) (box p)) (sym last)
            (turned (box p) (final n) (within_right (box p) (box P) (final n) (turned (box P) (box p) (parted.sides P p row.hangs old.0 old.1)) row.inside))
        | inr before ↦ parted.mixed i p (omega (arith, before)) leaf old.0
      ]
      | inr new ↦ elim (cases_eq i n) [
        | inl last ↦ absurd (leaf (subst (λ (k : ℕ). IsSplit (row_at rows k).end) (sym last) new.split))
        | inr before ↦ within_right (final i) (box P) (box p) (parted.mixed i P (omega (arith, before)) leaf row.hangs) (side_inside problem rows n p row new)
      ]
    ]

sides_more : (problem : BoxProblem) (rows : List Row) (n : ℕ) (p q : Option Parent) → AreParted problem rows n → IsRow problem rows n → Hangs rows (suc n) p → Hangs rows (suc n) q → ¬ p ≡ q
    → Apart (box_at problem.root rows p) (box_at problem.root rows q)
sides_more problem rows n p q parted row first second differs =
    let P = (row_at rows n).parent in
    let box = box_at problem.root rows in
    elim (hung rows n p first) [
      | inl old ↦ elim (hung rows n q second) [
        | inl other ↦ parted.sides p q old.0 other.0 differs
        | inr new ↦ within_right (box p) (box P) (box q) (parted.sides p P old.0 row.hangs (λ same. old.1 (sym same))) (side_inside problem rows n q row new)
      ]
      | inr new ↦ elim (hung rows n q second) [
        | inl other ↦ turned (box q) (box p) (within_right (box q) (box P) (box p) (parted.sides q P other.0 row.hangs (λ same. other.1 (sym same))) (side_inside problem rows n p row new))
        | inr both ↦ new_sides problem rows n p q row new both differs
      ]
    ]

is_row : (problem : BoxProblem) (value_at : ℕ → Option ℤ) (rows : List Row) (n : ℕ) → AreSound problem value_at rows → n < length rows → IsRow problem rows n
is_row problem value_at rows n sound exists =
    let start = start_of problem.root rows n in
    let begins = begins_inside problem value_at rows n (row_at rows n).parent sound (sound.ordered n exists) (omega arith) in
    record {
      hangs = sound.ordered n exists;
      inside = subst (λ (b : Box). Inside b start) (sym (final_is problem.root rows n exists (sound.ordered n exists)))
          (steps_lead_inside problem (value_at n) start (row_at rows n).steps begins.is_box (sound.steps n exists));
      cuts = sound.cuts n exists;
    }

parted : (problem : BoxProblem) (value_at : ℕ → Option ℤ) (rows : List Row) (n : ℕ) → AreSound problem value_at rows → n ≤ length rows → AreParted problem rows n
parted problem value_at rows zero sound fits = parted_first problem rows
parted problem value_at rows (suc n) sound fits =
    let before = parted problem value_at rows n sound (omega arith) in
    let row = is_row problem value_at rows n sound (omega arith) in
    record {
      leaves = λ i j first second differs leaf other. leaves_more problem rows n i j before row first second differs leaf other;
      mixed = λ i p first leaf hangs. mixed_more problem rows n i p before row first leaf hangs;
      sides = λ p q first second differs. sides_more problem rows n p q before row first second differs;
    }

pub leaves_are_apart : (problem : BoxProblem) (rows : List Row) (footer : Footer) (i j : ℕ) (point : List ℤ) → Lawful problem → AreRight problem rows footer
    → i < length rows → j < length rows → ¬ i ≡ j → ¬ IsSplit (row_at rows i).end → ¬ IsSplit (row_at rows j).end
    → InBox (final_of problem.root rows i) point → ¬ InBox (final_of problem.root rows j) point
leaves_are_apart problem rows footer i j point lawful right first second differs leaf other q =
    (parted problem (λ k. claimed footer) rows (length rows) (right_sound problem rows footer lawful right) (omega arith)).leaves i j first second differs leaf other point q
