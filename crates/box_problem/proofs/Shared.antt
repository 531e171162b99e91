-- Laws that crates above share.
use Rattle.std.proofs.Common.{refl, arith, ℕ, ℤ, ◌≡◌, ◌+ℤ◌, pos, List, ◌<◌, length, map, take, slice_index_or, ◌++◌, ◌∷◌, [], ◌+◌, ◌∙◌, sym, subst}
use Rattle.std.proofs.lemmas.Int.{ints}
use Rattle.std.proofs.lemmas.List.{map-append, take_more}
use Rattle.sopl_base.specs.declared.interval.Interval.{Interval}
use Rattle.sopl_base.specs.declared.reason.Side.TheVariants.{Le, Ge}
use Rattle.box_problem.proofs.Boxes.{intervals_make_a_box}
use Rattle.box_problem.specs.Box.{Box, IsBox, InBox, box_of}
use Rattle.box_problem.specs.Steps.{IsCut}

pub lows_inside : (b : Box) → IsBox b → InBox b b.lows
lows_inside b is_box = record {
  same_cells = refl;
  from_low = λ cell exists. omega (arith, ints);
  to_high = λ cell exists. is_box.ordered cell exists;
}

pub high_cut : (b : Box) (cell : ℕ) (k next : ℤ) → next ≡ k +ℤ pos 1 → IsCut b cell Le k → IsCut b cell Ge next
high_cut b cell k next is there = record {
  exists = there.exists;
  between = (omega (arith, ints, is, there.between.0), omega (arith, ints, is, there.between.1));
}

pub one_more : (f : Interval → ℤ) (ends : List ℤ) (i : ℕ) (roots : List Interval) (root : Interval) → i < length ends → map f roots ≡ take i ends → f root ≡ slice_index_or ends i (pos 0)
    → map f (roots ++ root ∷ []) ≡ take (i + 1) ends
one_more f ends i roots root below so_far at =
    map-append f roots (root ∷ []) ∙ (λ j. so_far j ++ at j ∷ []) ∙ sym (take_more ends i (pos 0) below)

pub made_box : (roots : List Interval) (lows highs : List ℤ) → lows ≡ (box_of roots).lows → highs ≡ (box_of roots).highs → IsBox (record { lows = lows; highs = highs })
made_box roots lows highs lows_are highs_are =
    subst (λ (xs : List ℤ). IsBox (record { lows = xs; highs = highs })) (sym lows_are)
    (subst (λ (ys : List ℤ). IsBox (record { lows = (box_of roots).lows; highs = ys })) (sym highs_are) (intervals_make_a_box roots))
