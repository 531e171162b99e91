-- Parts and points of boxes.
use Rattle.std.proofs.Common.{◌≡◌, ℕ, zero, suc, ◌<◌, ℤ, pos, ◌≤ℤ◌, List, [], ◌∷◌, length, get_or, map, arith, sym, subst, refl, ◌∙◌, ◌↔◌}
use Rattle.std.proofs.lemmas.Int.{ints}
use Rattle.std.proofs.lemmas.List.{length-map, ext_get_or}
use Rattle.sopl_base.specs.declared.interval.Interval.{Interval}
use Rattle.box_problem.specs.Box.{Box, box_of, IsBox, Inside, InBox, IsPoint}

-- the ends of intervals are in order
ordered_ends : (intervals : List Interval) (cell : ℕ) → cell < length (map (λ (i : Interval). i.lo) intervals)
    → get_or (map (λ (i : Interval). i.lo) intervals) cell (pos 0) ≤ℤ get_or (map (λ (i : Interval). i.hi) intervals) cell (pos 0)
ordered_ends [] cell exists = absurd (omega arith)
ordered_ends (interval ∷ intervals) zero exists = interval.ordered
ordered_ends (interval ∷ intervals) (suc cell) exists = ordered_ends intervals cell (omega arith)

pub intervals_make_a_box : (intervals : List Interval) → IsBox (box_of intervals)
intervals_make_a_box intervals = record {
  paired = length-map intervals (λ (i : Interval). i.hi) ∙ sym (length-map intervals (λ (i : Interval). i.lo));
  ordered = ordered_ends intervals;
}

pub part_of_itself : (b : Box) → IsBox b → Inside b b
part_of_itself b is_box = record {
  is_box = is_box;
  same_cells = refl;
  from_low = λ cell exists. omega (arith, ints);
  to_high = λ cell exists. omega (arith, ints);
}

pub parts_of_parts : (a b c : Box) → Inside a b → Inside b c → Inside a c
parts_of_parts a b c p q = record {
  is_box = p.is_box;
  same_cells = p.same_cells ∙ q.same_cells;
  from_low = λ cell exists. omega (arith, ints, p.from_low cell exists, q.from_low cell (omega (arith, p.same_cells)));
  to_high = λ cell exists. omega (arith, ints, p.to_high cell exists, q.to_high cell (omega (arith, p.same_cells)));
}

pub points_of_parts : (part whole : Box) (point : List ℤ) → Inside part whole → InBox part point → InBox whole point
points_of_parts part whole point p q = record {
  same_cells = q.same_cells ∙ p.same_cells;
  from_low = λ cell exists. omega (arith, ints, q.from_low cell exists, p.from_low cell (omega (arith, q.same_cells)));
  to_high = λ cell exists. omega (arith, ints, q.to_high cell exists, p.to_high cell (omega (arith, q.same_cells)));
}

-- the ends of a box of one point are its values
pub point_in_box : (b : Box) → IsBox b → IsPoint b → InBox b b.lows
point_in_box b is_box one = record {
  same_cells = refl;
  from_low = λ cell exists. omega (arith, ints);
  to_high = λ cell exists. omega (arith, ints, one cell exists);
}

pub only_point : (b : Box) (point : List ℤ) → IsPoint b → InBox b point → point ≡ b.lows
only_point b point one q =
    ext_get_or (pos 0) point b.lows q.same_cells
    (λ cell exists. omega (arith, ints, q.from_low cell exists, q.to_high cell exists, one cell (omega (arith, q.same_cells))))

pub one_point : (b : Box) (point : List ℤ) → IsBox b → IsPoint b → InBox b point ↔ (point ≡ b.lows)
one_point b point is_box one =
    (only_point b point one, λ is. subst (InBox b) (sym is) (point_in_box b is_box one))
