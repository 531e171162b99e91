-- The two parts that a cut makes.
use Rattle.std.proofs.Common.{◌⊎◌, ◌↔◌, inl, inr, ℕ, ◌<◌, ℤ, pos, ◌+ℤ◌, ◌-ℤ◌, ◌≤ℤ◌, List, length, get_or, arith, refl, sym, subst, ◌∙◌}
use Rattle.std.proofs.lemmas.Int.{ints, by_lt_z}
use Rattle.std.proofs.lemmas.List.{length-set, get_or-set_same}
use Rattle.sopl_base.specs.declared.reason.Side.{Side}
use Rattle.sopl_base.specs.declared.reason.Side.TheVariants.{Le, Ge}
use Rattle.box_problem.specs.Box.{Box, low, high, with_low, with_high, IsBox, Inside, InBox}
use Rattle.box_problem.specs.Steps.{IsCut, narrowed, cut_away}
use Rattle.box_problem.proofs.Lists.{at_set}
use Rattle.box_problem.proofs.Boxes.{points_of_parts}

-- a lower end that is raised within its interval, and an upper end that is lowered
pub low_raised : (b : Box) (cell : ℕ) (k : ℤ) → IsBox b → cell < length b.lows → low b cell ≤ℤ k → k ≤ℤ high b cell → Inside (with_low b cell k) b
low_raised b cell k is_box exists above below = record {
  is_box = record {
    paired = is_box.paired ∙ sym (length-set b.lows cell k);
    ordered = λ other there.
        at_set (λ n z. n < length b.lows → z ≤ℤ high b n) b.lows cell k exists (λ here. below) (λ n differs here. is_box.ordered n here) other (omega (arith, length-set b.lows cell k));
  };
  same_cells = length-set b.lows cell k;
  from_low = λ other there.
      at_set (λ n z. low b n ≤ℤ z) b.lows cell k exists above (λ n differs. omega (arith, ints)) other;
  to_high = λ other there. omega (arith, ints);
}

pub high_lowered : (b : Box) (cell : ℕ) (k : ℤ) → IsBox b → cell < length b.lows → low b cell ≤ℤ k → k ≤ℤ high b cell → Inside (with_high b cell k) b
high_lowered b cell k is_box exists above below =
    let paired : cell < length b.highs = omega (arith, is_box.paired) in
    record {
      is_box = record {
        paired = length-set b.highs cell k ∙ is_box.paired;
        ordered = λ other there.
            at_set (λ n z. n < length b.lows → low b n ≤ℤ z) b.highs cell k paired (λ here. above) (λ n differs here. is_box.ordered n here) other there;
      };
      same_cells = refl;
      from_low = λ other there. omega (arith, ints);
      to_high = λ other there.
          at_set (λ n z. z ≤ℤ high b n) b.highs cell k paired below (λ n differs. omega (arith, ints)) other;
    }

pub in_raised : (b : Box) (cell : ℕ) (k : ℤ) (point : List ℤ) → cell < length b.lows → InBox b point → k ≤ℤ get_or point cell (pos 0) → InBox (with_low b cell k) point
in_raised b cell k point exists q above = record {
  same_cells = q.same_cells ∙ sym (length-set b.lows cell k);
  from_low = λ other there.
      at_set (λ n z. n < length point → z ≤ℤ get_or point n (pos 0)) b.lows cell k exists (λ here. above) (λ n differs here. q.from_low n here) other there;
  to_high = q.to_high;
}

pub in_lowered : (b : Box) (cell : ℕ) (k : ℤ) (point : List ℤ) → IsBox b → cell < length b.lows → InBox b point → get_or point cell (pos 0) ≤ℤ k → InBox (with_high b cell k) point
in_lowered b cell k point is_box exists q below = record {
  same_cells = q.same_cells;
  from_low = q.from_low;
  to_high = λ other there.
      at_set (λ n z. n < length point → get_or point n (pos 0) ≤ℤ z) b.highs cell k (omega (arith, is_box.paired)) (λ here. below) (λ n differs here. q.to_high n here) other there;
}

-- where a point lies in such a part, its value lies on that side
pub above_low : (b : Box) (cell : ℕ) (k : ℤ) (point : List ℤ) → cell < length b.lows → InBox (with_low b cell k) point → k ≤ℤ get_or point cell (pos 0)
above_low b cell k point exists q =
    subst (λ (z : ℤ). z ≤ℤ get_or point cell (pos 0)) (get_or-set_same b.lows cell k (pos 0) exists) (q.from_low cell (omega (arith, q.same_cells, length-set b.lows cell k)))

pub below_high : (b : Box) (cell : ℕ) (k : ℤ) (point : List ℤ) → IsBox b → cell < length b.lows → InBox (with_high b cell k) point → get_or point cell (pos 0) ≤ℤ k
below_high b cell k point is_box exists q =
    let paired : cell < length b.highs = omega (arith, is_box.paired) in
    subst (λ (z : ℤ). get_or point cell (pos 0) ≤ℤ z) (get_or-set_same b.highs cell k (pos 0) paired) (q.to_high cell (omega (arith, q.same_cells)))

pub cuts_make_parts : (b : Box) (cell : ℕ) (side : Side) (k : ℤ) → IsBox b → IsCut b cell side k → Inside (narrowed b cell side k) b × Inside (cut_away b cell side k) b
cuts_make_parts b cell Le k is_box cut = (
  high_lowered b cell k is_box cut.exists (omega (arith, ints, cut.between.0)) (omega (arith, ints, cut.between.1)),
  low_raised b cell (k +ℤ pos 1) is_box cut.exists (omega (arith, ints, cut.between.0)) (omega (arith, ints, cut.between.1)),
)
cuts_make_parts b cell Ge k is_box cut = (
  low_raised b cell k is_box cut.exists (omega (arith, ints, cut.between.0)) (omega (arith, ints, cut.between.1)),
  high_lowered b cell (k -ℤ pos 1) is_box cut.exists (omega (arith, ints, cut.between.0)) (omega (arith, ints, cut.between.1)),
)

-- a point lies below k or from k on
in_one_part : (b : Box) (cell : ℕ) (side : Side) (k : ℤ) (point : List ℤ) → IsBox b → IsCut b cell side k → InBox b point → InBox (narrowed b cell side k) point ⊎ InBox (cut_away b cell side k) point
in_one_part b cell Le k point is_box cut q =
    by_lt_z k (get_or point cell (pos 0))
    (λ above. inr (in_raised b cell (k +ℤ pos 1) point cut.exists q (omega (arith, ints))))
    (λ below. inl (in_lowered b cell k point is_box cut.exists q below))
in_one_part b cell Ge k point is_box cut q =
    by_lt_z (get_or point cell (pos 0)) k
    (λ below. inr (in_lowered b cell (k -ℤ pos 1) point is_box cut.exists q (omega (arith, ints))))
    (λ above. inl (in_raised b cell k point cut.exists q above))

pub cuts_cover : (b : Box) (cell : ℕ) (side : Side) (k : ℤ) (point : List ℤ) → IsBox b → IsCut b cell side k
    → InBox b point ↔ (InBox (narrowed b cell side k) point ⊎ InBox (cut_away b cell side k) point)
cuts_cover b cell side k point is_box cut =
    let parts = cuts_make_parts b cell side k is_box cut in (
      in_one_part b cell side k point is_box cut,
      λ either. elim either [
        | inl kept ↦ points_of_parts (narrowed b cell side k) b point parts.0 kept
        | inr lost ↦ points_of_parts (cut_away b cell side k) b point parts.1 lost
      ],
    )

pub cuts_separate : (b : Box) (cell : ℕ) (side : Side) (k : ℤ) (point : List ℤ) → IsBox b → IsCut b cell side k → InBox (narrowed b cell side k) point → ¬ InBox (cut_away b cell side k) point
cuts_separate b cell Le k point is_box cut kept lost =
    absurd (omega (arith, ints, below_high b cell k point is_box cut.exists kept, above_low b cell (k +ℤ pos 1) point cut.exists lost))
cuts_separate b cell Ge k point is_box cut kept lost =
    absurd (omega (arith, ints, above_low b cell k point cut.exists kept, below_high b cell (k -ℤ pos 1) point is_box cut.exists lost))
