-- The table of first lines and sides, row by row.
use Rattle.std.proofs.Common.{◌≡◌, ◌∙◌, ◌⊎◌, inl, inr, ◌<◌, ◌+◌, ℕ, List, [], ◌∷◌, ◌++◌, length, get_or, set, Option, None, Some, Fits, w64, ◌^◌, refl, sym, ap, subst, arith, rules}
use Rattle.std.proofs.Math.Seq.{get_or-append_seam}
use Rattle.std.proofs.lemmas.Bool.{cases_eq}
use Rattle.std.proofs.lemmas.List.{get_or_append_left, get_or_default, get_or-set_same, get_or-set_other, length-append, length-set}
use Rattle.sopl_base.specs.declared.reason.Side.{Side}
use Rattle.sopl_base.specs.declared.reason.Side.TheVariants.{Le, Ge}
use Rattle.log_rows.specs.declared.rows.Parent.{Parent}
use Rattle.log_rows.specs.declared.rows.Row.{Row}
use Rattle.log_rows.specs.Rows.{no_row, row_at, AreOrdered, Hangs}
use Rattle.sopl_base.specs.declared.reason.Step.{Step}
use Rattle.log_rows.proofs.Growing.{same_side}
use Rattle.log_check.proofs.Lines.{first_grows, first_next}
use Rattle.log_check.specs.declared.sides.Sides.{Sides}
use Rattle.log_check.specs.Sides.{AreSidesTo, no_sides, row_begins, side_of, side_row, sides_at, with_row, with_side}
use Rattle.log_check.specs.Verdicts.{first_line}

-- the side that a row takes
with_same : (s : Sides) (side : Side) (j : ℕ) → side_row (with_row s side j) side ≡ Some j
with_same s Le j = refl
with_same s Ge j = refl

with_other : (s : Sides) (one other : Side) (j : ℕ) → ¬ (one ≡ other) → side_row (with_row s one j) other ≡ side_row s other
with_other s Le Le j differ = absurd (differ refl)
with_other s Le Ge j differ = refl
with_other s Ge Le j differ = refl
with_other s Ge Ge j differ = absurd (differ refl)

with_line : (s : Sides) (side : Side) (j : ℕ) → (with_row s side j).line ≡ s.line
with_line s Le j = refl
with_line s Ge j = refl

set_length : (sides : List Sides) (p : Option Parent) (j : ℕ) → length (with_side sides p j) ≡ length sides
set_length sides None j = refl
set_length sides (Some q) j = length-set sides q.node (with_row (sides_at sides q.node) q.side j)

-- what is at a row: a side of it is taken by this row, or all is as before
data Taken (sides : List Sides) (p : Option Parent) (j a : ℕ) (side : Side) : Type 0 where
  here : p ≡ side_of a side → side_row (sides_at (with_side sides p j) a) side ≡ Some j → Taken sides p j a side
  other : ¬ (p ≡ side_of a side) → side_row (sides_at (with_side sides p j) a) side ≡ side_row (sides_at sides a) side → Taken sides p j a side

parts_of : {p q : Parent} → Some p ≡ Some q → (p.node ≡ q.node) × (p.side ≡ q.side)
parts_of is = (ap node_in is, ap side_in is)
  where
    node_in : Option Parent → ℕ
    node_in None = 0
    node_in (Some parent) = parent.node

    side_in : Option Parent → Side
    side_in None = Le
    side_in (Some parent) = parent.side

taken : (sides : List Sides) (p : Option Parent) (j a : ℕ) (side : Side) → a < length sides → Taken sides p j a side
taken sides None j a side exists = other (λ is. absurd (cc)) refl
taken sides (Some q) j a side exists =
    elim (cases_eq q.node a) [
      | inl same ↦ by_side (same_side q.side side) same
      | inr differ ↦ other (λ is. differ (parts_of is).0) (ap (λ s. side_row s side) (get_or-set_other sides q.node a (with_row (sides_at sides q.node) q.side j) no_sides (λ is. differ (sym is))))
    ]
  where
    at_node : q.node ≡ a → sides_at (with_side sides (Some q) j) a ≡ with_row (sides_at sides q.node) q.side j
    at_node same = subst (λ n. get_or (set sides q.node (with_row (sides_at sides q.node) q.side j)) n no_sides ≡ with_row (sides_at sides q.node) q.side j) same
        (get_or-set_same sides q.node (with_row (sides_at sides q.node) q.side j) no_sides (subst (λ n. n < length sides) (sym same) exists))

    by_side : (q.side ≡ side) ⊎ (¬ q.side ≡ side) → q.node ≡ a → Taken sides (Some q) j a side
    by_side (inl is) same = here (ap (λ n. side_of n q.side) same ∙ ap (λ s. side_of a s) is) (ap (λ s. side_row s side) (at_node same) ∙ subst (λ x. side_row (with_row (sides_at sides q.node) q.side j) x ≡ Some j) is (with_same (sides_at sides q.node) q.side j))
    by_side (inr isnt) same = other (λ is. isnt (parts_of is).1)
        (ap (λ s. side_row s side) (at_node same) ∙ with_other (sides_at sides q.node) q.side side j isnt ∙ ap (λ n. side_row (sides_at sides n) side) same)

line_kept : (sides : List Sides) (p : Option Parent) (j a : ℕ) → a < length sides → (sides_at (with_side sides p j) a).line ≡ (sides_at sides a).line
line_kept sides None j a exists = refl
line_kept sides (Some q) j a exists =
    elim (cases_eq q.node a) [
      | inl same ↦ ap (λ (s : Sides). s.line) (subst (λ n. get_or (set sides q.node (with_row (sides_at sides q.node) q.side j)) n no_sides ≡ with_row (sides_at sides q.node) q.side j) same
          (get_or-set_same sides q.node (with_row (sides_at sides q.node) q.side j) no_sides (subst (λ n. n < length sides) (sym same) exists)))
          ∙ with_line (sides_at sides q.node) q.side j ∙ ap (λ n. (sides_at sides n).line) same
      | inr differ ↦ ap (λ (s : Sides). s.line) (get_or-set_other sides q.node a (with_row (sides_at sides q.node) q.side j) no_sides (λ is. differ (sym is)))
    ]

module _ (rows : List Row) (n : ℕ) (sides : List Sides) (line : ℕ) (ordered : AreOrdered rows) (exists : n < length rows) (before : AreSidesTo rows n sides) (line_is : line ≡ first_line rows n) where
  p : Option Parent
  p = (row_at rows n).parent

  abbrev next : List Sides
  next = with_side sides (row_at rows n).parent n ++ row_begins line ∷ []

  count : length (with_side sides (row_at rows n).parent n) ≡ n
  count = set_length sides (row_at rows n).parent n ∙ before.each

  old_at : (a : ℕ) → a < n → sides_at next a ≡ sides_at (with_side sides (row_at rows n).parent n) a
  old_at a below = get_or_append_left (with_side sides (row_at rows n).parent n) (row_begins line ∷ []) no_sides a (omega (arith, below, count))

  last_at : sides_at next n ≡ row_begins line
  last_at = ap (λ k. sides_at next k) (sym count) ∙ get_or-append_seam (with_side sides (row_at rows n).parent n) (row_begins line) [] no_sides

  earlier : (j a : ℕ) (side : Side) → j < length rows → (row_at rows j).parent ≡ side_of a side → a < j
  earlier j a side there is = let hangs : Hangs rows j (side_of a side) = subst (λ (q : Option Parent). Hangs rows j q) is (ordered j there) in hangs.earlier

  untaken : (j a : ℕ) (side : Side) → j < n → (row_at rows n).parent ≡ side_of a side → ¬ (row_at rows j).parent ≡ side_of a side
  untaken j a side below is = let hangs : Hangs rows n (side_of a side) = subst (λ (q : Option Parent). Hangs rows n q) is (ordered n exists) in hangs.untaken j below

  told_old : (a j : ℕ) (side : Side) → a < n → j < n → (row_at rows j).parent ≡ side_of a side → side_row (sides_at next a) side ≡ Some j
  told_old a j side below_a below_j is = ap (λ s. side_row s side) (old_at a below_a) ∙ by_taken (taken sides (row_at rows n).parent n a side (omega (arith, below_a, before.each)))
    where
      by_taken : Taken sides (row_at rows n).parent n a side → side_row (sides_at (with_side sides (row_at rows n).parent n) a) side ≡ Some j
      by_taken (here same holds) = absurd (untaken j a side below_j same is)
      by_taken (other differ same) = same ∙ before.told a j side below_a below_j is

  told_new : (a : ℕ) (side : Side) → a < n → (row_at rows n).parent ≡ side_of a side → side_row (sides_at next a) side ≡ Some n
  told_new a side below is = ap (λ s. side_row s side) (old_at a below) ∙ by_taken (taken sides (row_at rows n).parent n a side (omega (arith, below, before.each)))
    where
      by_taken : Taken sides (row_at rows n).parent n a side → side_row (sides_at (with_side sides (row_at rows n).parent n) a) side ≡ Some n
      by_taken (here same holds) = holds
      by_taken (other differ same) = absurd (differ is)

  are_old : (a j : ℕ) (side : Side) → a < n → side_row (sides_at next a) side ≡ Some j → (j < n + 1) × ((row_at rows j).parent ≡ side_of a side)
  are_old a j side below is = by_taken (taken sides (row_at rows n).parent n a side (omega (arith, below, before.each)))
    where
      there : side_row (sides_at (with_side sides (row_at rows n).parent n) a) side ≡ Some j
      there = ap (λ s. side_row s side) (sym (old_at a below)) ∙ is

      inside : {x y : ℕ} → Some x ≡ Some y → x ≡ y
      inside e = cc

      by_taken : Taken sides (row_at rows n).parent n a side → (j < n + 1) × ((row_at rows j).parent ≡ side_of a side)
      by_taken (here same holds) = let is_n : n ≡ j = inside (sym holds ∙ there) in (omega (arith, is_n), subst (λ k. (row_at rows k).parent ≡ side_of a side) is_n same)
      by_taken (other differ same) = let old = before.are a j side below (sym same ∙ there) in (omega (arith, old.0), old.1)

  none_new : (side : Side) → side_row (row_begins line) side ≡ None
  none_new Le = refl
  none_new Ge = refl

  pub sides_more : AreSidesTo rows (n + 1) next
  sides_more = record { each = length-append (with_side sides (row_at rows n).parent n) (row_begins line ∷ []) ∙ ap (λ k. k + 1) count; lines = lines; told = told; are = are }
    where
      lines : (i : ℕ) → i < n + 1 → (sides_at next i).line ≡ first_line rows i
      lines i below =
          elim (cases_eq i n) [
            | inl same ↦ subst (λ k. (sides_at next k).line ≡ first_line rows k) (sym same) (ap (λ (s : Sides). s.line) last_at ∙ line_is)
            | inr differ ↦
                let less : i < n = omega (arith, below, differ) in
                ap (λ (s : Sides). s.line) (old_at i less) ∙ line_kept sides (row_at rows n).parent n i (omega (arith, less, before.each)) ∙ before.lines i less
          ]

      told : (i j : ℕ) (side : Side) → i < n + 1 → j < n + 1 → (row_at rows j).parent ≡ side_of i side → side_row (sides_at next i) side ≡ Some j
      told i j side below_i below_j is =
          elim (cases_eq j n) [
            | inl same ↦
                let there : (row_at rows n).parent ≡ side_of i side = subst (λ k. (row_at rows k).parent ≡ side_of i side) same is in
                told_new i side (earlier n i side exists there) there ∙ ap (λ k. Some k) (sym same)
            | inr differ ↦
                let less : j < n = omega (arith, below_j, differ) in
                told_old i j side (omega (arith, earlier j i side (omega (arith, less, exists)) is, less)) less is
          ]

      are : (i j : ℕ) (side : Side) → i < n + 1 → side_row (sides_at next i) side ≡ Some j → (j < n + 1) × ((row_at rows j).parent ≡ side_of i side)
      are i j side below is =
          elim (cases_eq i n) [
            | inl same ↦
                let clash : None ≡ Some j = sym (none_new side) ∙ ap (λ s. side_row s side) (sym last_at) ∙ subst (λ k. side_row (sides_at next k) side ≡ Some j) same is in absurd (cc)
            | inr differ ↦ are_old i j side (omega (arith, below, differ)) is
          ]

-- the line of the next row
pub line_more : (rows : List Row) (i : ℕ) (r : Row) (steps : List Step) (line : ℕ) → i < length rows → line ≡ first_line rows i → r ≡ get_or rows i r → steps ≡ r.steps → line + (2 + length steps) ≡ first_line rows (i + 1)
line_more rows i r steps line exists line_is at are =
    let same : length steps ≡ length (row_at rows i).steps = ap length are ∙ ap (λ (x : Row). length x.steps) (at ∙ get_or_default rows i r no_row exists) in
    omega (arith, line_is, same, first_next rows i exists)

pub line_fits_more : (rows : List Row) (i : ℕ) (r : Row) (steps : List Step) (line : ℕ) → i < length rows → line ≡ first_line rows i → r ≡ get_or rows i r → steps ≡ r.steps → first_line rows (length rows) < 2 ^ 64
    → Fits w64 (line + (2 + length steps))
line_fits_more rows i r steps line exists line_is at are fits =
    let bound : line + (2 + length steps) < 2 ^ 64 = omega (arith, line_more rows i r steps line exists line_is at are, first_grows rows (i + 1) (length rows) (omega (arith, exists)), fits) in
    search (arith, rules)

pub sides_row : (rows : List Row) (n : ℕ) (sides after : List Sides) (line : ℕ) (r : Row) → AreOrdered rows → n < length rows → AreSidesTo rows n sides → line ≡ first_line rows n → r ≡ get_or rows n r
    → after ≡ with_side sides r.parent n ++ row_begins line ∷ [] → AreSidesTo rows (n + 1) after
sides_row rows n sides after line r ordered exists before line_is at added =
    subst (AreSidesTo rows (n + 1)) (sym (added ∙ ap (λ (x : Row). with_side sides x.parent n ++ row_begins line ∷ []) (at ∙ get_or_default rows n r no_row exists)))
    (sides_more rows n sides line ordered exists before line_is)
