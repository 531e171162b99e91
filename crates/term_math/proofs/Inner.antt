-- A box with another interval for one cell lies inside the root, where that interval does.
use Rattle.std.proofs.Common.{◌≡◌, inl, inr, Some, ℕ, ◌<◌, ℤ, pos, ◌≤ℤ◌, List, length, get_or, slice_index_or, slice_set, arith, ap, subst, sym, ◌∙◌}
use Rattle.std.proofs.lemmas.Bool.{cases_eq}
use Rattle.std.proofs.lemmas.Int.{ints}
use Rattle.std.proofs.lemmas.List.{length-set, get_or-set_same, get_or-set_other}
use Rattle.box_problem.specs.Box.{Box, Inside, low, high}
use Rattle.term_math.specs.declared.views.Part.{Part}
use Rattle.term_math.specs.Shown.{IsPart, with_part}

-- an element of a list, one of which was set
at_set : (P : ℕ → ℤ → Type 0) (xs : List ℤ) (cell : ℕ) (k : ℤ) (c : ℕ) → c < length xs → (c ≡ cell → P c k) → P c (slice_index_or xs c (pos 0)) → P c (slice_index_or (slice_set xs cell k) c (pos 0))
at_set P xs cell k c there here other =
    elim (cases_eq c cell) [
      | inl same ↦
          let inside : cell < length xs = subst (λ (n : ℕ). n < length xs) same there in
          let value : slice_index_or (slice_set xs cell k) c (pos 0) ≡ k = ap (λ (n : ℕ). get_or (slice_set xs cell k) n (pos 0)) same ∙ get_or-set_same xs cell k (pos 0) inside in
          subst (P c) (sym value) (here same)
      | inr apart ↦ subst (P c) (sym (get_or-set_other xs cell c k (pos 0) apart)) other
    ]

-- the ends of each cell
set_low : (root b : Box) (part : Part) (c : ℕ) → Inside b root → IsPart root part → c < length b.lows → low root c ≤ℤ low (with_part b (Some part)) c
set_low root b part c inside is there =
    at_set (λ n z. low root n ≤ℤ z) b.lows part.cell part.ends.low c there (λ same. subst (λ (n : ℕ). low root n ≤ℤ part.ends.low) (sym same) is.from_low) (inside.from_low c there)

set_high : (root b : Box) (part : Part) (c : ℕ) → Inside b root → IsPart root part → c < length b.lows → high (with_part b (Some part)) c ≤ℤ high root c
set_high root b part c inside is there =
    at_set (λ n z. z ≤ℤ high root n) b.highs part.cell part.ends.high c (omega (arith, there, inside.is_box.paired)) (λ same. subst (λ (n : ℕ). part.ends.high ≤ℤ high root n) (sym same) is.to_high)
    (inside.to_high c there)

set_ordered : (root b : Box) (part : Part) (c : ℕ) → Inside b root → IsPart root part → c < length b.lows → low (with_part b (Some part)) c ≤ℤ high (with_part b (Some part)) c
set_ordered root b part c inside is there =
    elim (cases_eq c part.cell) [
      | inl same ↦
          let here : part.cell < length b.lows = subst (λ (n : ℕ). n < length b.lows) same there in
          let lower : low (with_part b (Some part)) c ≡ part.ends.low = ap (low (with_part b (Some part))) same ∙ get_or-set_same b.lows part.cell part.ends.low (pos 0) here in
          let upper : high (with_part b (Some part)) c ≡ part.ends.high = ap (high (with_part b (Some part))) same
          ∙ get_or-set_same b.highs part.cell part.ends.high (pos 0) (omega (arith, here, inside.is_box.paired)) in
          omega (arith, ints, lower, upper, is.ordered)
      | inr apart ↦
          let lower : low (with_part b (Some part)) c ≡ low b c = get_or-set_other b.lows part.cell c part.ends.low (pos 0) apart in
          let upper : high (with_part b (Some part)) c ≡ high b c = get_or-set_other b.highs part.cell c part.ends.high (pos 0) apart in
          omega (arith, ints, lower, upper, inside.is_box.ordered c there)
    ]

pub part_inside : (root b : Box) (part : Part) → Inside b root → IsPart root part → Inside (with_part b (Some part)) root
part_inside root b part inside is =
    let lows : length (with_part b (Some part)).lows ≡ length b.lows = length-set b.lows part.cell part.ends.low in
    record {
      is_box = record {
        paired = length-set b.highs part.cell part.ends.high ∙ inside.is_box.paired ∙ sym lows;
        ordered = λ c there. set_ordered root b part c inside is (omega (arith, there, lows));
      };
      same_cells = lows ∙ inside.same_cells;
      from_low = λ c there. set_low root b part c inside is (omega (arith, there, lows));
      to_high = λ c there. set_high root b part c inside is (omega (arith, there, lows));
    }
