-- Of two sides of a split the low one stands first, also among the rows of open nodes.
use Rattle.std.proofs.Common.{◌≡◌, ◌⊎◌, inl, inr, ℕ, ◌+◌, ◌-◌, ◌<◌, ◌≤◌, ℤ, List, ◌++◌, length, get_or, map, Option, AllPairs, Contains, arith, refl, sym, ap, subst, ◌∙◌}
use Rattle.std.proofs.lemmas.Bool.{cases_order, cases_lt}
use Rattle.std.proofs.lemmas.List.{get_or-append-add, get_or-map, length-append, length-map}
use Rattle.std.proofs.lemmas.List.Elements.{Contains-get_or}
use Rattle.sopl_base.specs.declared.reason.Side.TheVariants.{Le, Ge}
use Rattle.box_problem.specs.BoxProblem.{BoxProblem}
use Rattle.log_rows.specs.declared.rows.Parent.{Parent}
use Rattle.log_rows.specs.declared.rows.Row.{Row}
use Rattle.log_rows.specs.Made.{Logs, Pending, open_row, pending_at, with_open}
use Rattle.log_rows.specs.Rows.{Hangs, no_row, row_at}
use Rattle.log_rows.proofs.Growing.{not_both_sides, side_in, side_of, some_side, taken_or_free}
use Rattle.log_rows.proofs.Places.{row_stays}
use Rattle.sopl_search.specs.Logged.{HasLowBefore, LowStandsFirst, StandsBefore}

-- open nodes by their parents
abbrev AreInOrder : List Pending → Type 0
AreInOrder nodes = AllPairs (λ (x y : Pending). StandsBefore x.parent y.parent) nodes

-- a low side that stands among the first rows
low_stays : (xs ys : List Row) (m i n : ℕ) → m ≤ length xs → m ≤ i → HasLowBefore xs m n → HasLowBefore (xs ++ ys) i n
low_stays xs ys m i n fits more low = record {
  row = low.row;
  before = omega (arith, low.before, more);
  parent = ap (λ (r : Row). r.parent) (row_stays xs ys low.row (omega (arith, low.before, fits))) ∙ low.parent;
}

-- where a high side hangs and the low one was not taken, the low one hangs too
low_hangs : (rows : List Row) (m n : ℕ) → Hangs rows m (some_side n Ge) → ((k : ℕ) → k < m → ¬ (row_at rows k).parent ≡ some_side n Le) → Hangs rows m (some_side n Le)
low_hangs rows m n hangs free = record { earlier = hangs.earlier; split = hangs.split; untaken = free }

-- where a high side is open, the low one is a row, or is open too
beside : (problem : BoxProblem) (rows : List Row) (opens : List Pending) (best : Option ℤ) (n : ℕ) → Logs problem rows opens best → Hangs rows (length rows) (some_side n Ge)
    → HasLowBefore rows (length rows) n ⊎ Contains opens (pending_at problem.root rows (some_side n Le))
beside problem rows opens best n logs hangs =
    elim (taken_or_free rows (length rows) (side_of n Le)) [
      | inl taken ↦ inl (record { row = taken.row; before = taken.before; parent = taken.is })
      | inr free ↦ inr (logs.listed (some_side n Le) (low_hangs rows (length rows) n hangs free))
    ]

-- the rows of open nodes
open_parent : (rows : List Row) (opens : List Pending) (k : ℕ) (d : Pending) → k < length opens → (row_at (with_open rows opens) (length rows + k)).parent ≡ (get_or opens k d).parent
open_parent rows opens k d exists = ap (λ (r : Row). r.parent) (get_or-append-add rows (map open_row opens) k no_row ∙ get_or-map open_row opens k d no_row exists)

-- of two open sides of one split the low one stands before the high one
low_before : (n : ℕ) → ¬ StandsBefore (some_side n Ge) (some_side n Le)
low_before n before =
    elim before [
      | inl less ↦ omega (arith, less)
      | inr same ↦ not_both_sides same.1
    ]

-- a high side that is open stands behind its low side, where that is open too
open_low : (rows : List Row) (opens : List Pending) (n k j : ℕ) (low : Pending) → AreInOrder opens → low.parent ≡ some_side n Le → k < length opens → (get_or opens k low).parent ≡ some_side n Ge
    → j < length opens → get_or opens j low ≡ low → HasLowBefore (with_open rows opens) (length rows + k) n
open_low rows opens n k j low order low_is exists is there same =
    let side : (get_or opens j low).parent ≡ some_side n Le = ap (λ (z : Pending). z.parent) same ∙ low_is in
    elim (cases_order j k) [
      | inl equal ↦ absurd (not_both_sides (ap side_in (sym is ∙ (sym (ap (λ (m : ℕ). (get_or opens m low).parent) equal) ∙ side))))
      | inr differs ↦ elim differs [
        | inl before ↦ record { row = length rows + j; before = omega (arith, before); parent = open_parent rows opens j low there ∙ side }
        | inr behind ↦ absurd (low_before n
            (subst (λ (p : Option Parent). StandsBefore p (some_side n Le)) is
            (subst (λ (p : Option Parent). StandsBefore (get_or opens k low).parent p) side (order k j low behind there))))
      ]
    ]

-- a high side that is open, at its place behind the rows
open_high : (problem : BoxProblem) (rows : List Row) (opens : List Pending) (best : Option ℤ) (n k : ℕ) → Logs problem rows opens best → AreInOrder opens → k < length opens
    → (row_at (with_open rows opens) (length rows + k)).parent ≡ some_side n Ge → HasLowBefore (with_open rows opens) (length rows + k) n
open_high problem rows opens best n k logs order exists is =
    let low = pending_at problem.root rows (some_side n Le) in
    let high : (get_or opens k low).parent ≡ some_side n Ge = sym (open_parent rows opens k low exists) ∙ is in
    let there = logs.placed (get_or opens k low) (Contains-get_or opens k low exists) in
    elim (beside problem rows opens best n logs (subst (λ (p : Option Parent). Hangs rows (length rows) p) high there.0)) [
      | inl row ↦ low_stays rows (map open_row opens) (length rows) (length rows + k) n (omega arith) (omega arith) row
      | inr waits ↦ open_low rows opens n k waits.0 low order refl exists high waits.1 waits.2
    ]

-- with the rows of the open nodes behind the others
pub low_first_with_open : (problem : BoxProblem) (rows : List Row) (opens : List Pending) (best : Option ℤ) → Logs problem rows opens best → AreInOrder opens → LowStandsFirst rows
    → LowStandsFirst (with_open rows opens)
low_first_with_open problem rows opens best logs order first i n exists is =
    let all = with_open rows opens in
    let longer : length all ≡ length rows + length opens = omega (arith, length-append rows (map open_row opens), length-map opens open_row) in
    elim (cases_lt i (length rows)) [
      | inl old ↦ low_stays rows (map open_row opens) i i n (omega (arith, old)) (omega arith)
          (first i n old (sym (ap (λ (r : Row). r.parent) (row_stays rows (map open_row opens) i old)) ∙ is))
      | inr new ↦
          let place : i ≡ length rows + (i - length rows) = omega (arith, new) in
          subst (λ (m : ℕ). HasLowBefore all m n) (sym place)
          (open_high problem rows opens best n (i - length rows) logs order (omega (arith, new, longer, exists)) (subst (λ (m : ℕ). (row_at all m).parent ≡ some_side n Ge) place is))
    ]
