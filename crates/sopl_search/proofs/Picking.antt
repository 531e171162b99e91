-- What is picked for a box.
use Rattle.std.proofs.Common.{◌≡◌, ℕ, ◌<◌, ◌^◌, ◌-◌, ℤ, pos, ◌<ℤ◌, List, length, get_or, Option, None, Some, arith, sym, subst}
use Rattle.std.proofs.lemmas.Int.{ints}
use Rattle.box_problem.specs.Box.{Box, IsBox}
use Rattle.box_problem.specs.Near.{IsNearBox}
use Rattle.brancher.specs.declared.choice.Choice.{Choice}
use Rattle.brancher.specs.Choices.{AreEnds}
use Rattle.brancher.specs.Picks.{IsPicked, IsProperChoice}
use Rattle.brancher.specs.Rules.{Rule}
use Rattle.open_nodes.specs.declared.halving.Halving.{Halving}
use Rattle.sopl_search.specs.declared.ending.NodeEnd.TheVariants.{Split, Point}
use Rattle.sopl_search.specs.Ends.{EndsPicked, IsPickedCut}

-- the ends of a box that is near
pub are_ends : (b : Box) (lows highs : List ℤ) (n : ℕ) → IsBox b → IsNearBox b → lows ≡ b.lows → highs ≡ b.highs → n ≡ length b.lows → n < 2 ^ 32 → AreEnds lows highs
are_ends b lows highs n is_box near lows_are highs_are count few =
    subst (λ (xs : List ℤ). AreEnds xs highs) (sym lows_are)
    (subst (λ (ys : List ℤ). AreEnds b.lows ys) (sym highs_are)
    (record {
      paired = is_box.paired;
      few = omega (arith, count, few);
      ordered = is_box.ordered;
      above = λ cell exists. (near.lows cell exists).above;
      below = λ cell exists. (near.highs cell exists).below;
    }))

-- there is a number above the greatest one of the low half
pub cut_room : (lows highs : List ℤ) (choice : Choice) → AreEnds lows highs → IsProperChoice lows highs choice → choice.cut <ℤ pos (2 ^ 63 - 1)
cut_room lows highs choice ends proper = omega (arith, ints, proper.below_high, ends.below choice.cell proper.exists)

-- how a box ends by what is picked
pub picked_point : (asked : Option Rule) (depth : ℕ) (b : Box) (lows highs : List ℤ) (answer : Option Choice) → lows ≡ b.lows → highs ≡ b.highs → answer ≡ None
    → IsPicked asked depth lows highs answer → EndsPicked asked depth b Point
picked_point asked depth b lows highs answer lows_are highs_are none picked =
    subst (λ (xs : List ℤ). (cell : ℕ) → cell < length xs → get_or xs cell (pos 0) ≡ get_or b.highs cell (pos 0)) lows_are
    (subst (λ (ys : List ℤ). (cell : ℕ) → cell < length lows → get_or lows cell (pos 0) ≡ get_or ys cell (pos 0)) highs_are
    (subst (λ (found : Option Choice). IsPicked asked depth lows highs found) none picked).proper)

pub picked_cut : (asked : Option Rule) (depth : ℕ) (b : Box) (lows highs : List ℤ) (answer : Option Choice) (choice : Choice) (cut : Halving) → lows ≡ b.lows → highs ≡ b.highs
    → answer ≡ Some choice → cut.cell ≡ choice.cell → cut.k ≡ choice.cut
    → IsPicked asked depth lows highs answer → EndsPicked asked depth b (Split cut choice.low_first)
picked_cut asked depth b lows highs answer choice cut lows_are highs_are some cell k picked =
    subst (λ (n : ℕ). IsPickedCut asked depth b n cut.k choice.low_first) (sym cell)
    (subst (λ (x : ℤ). IsPickedCut asked depth b choice.cell x choice.low_first) (sym k)
    (subst (λ (xs : List ℤ). IsPicked asked depth xs b.highs (Some choice)) lows_are
    (subst (λ (ys : List ℤ). IsPicked asked depth lows ys (Some choice)) highs_are
    (subst (λ (found : Option Choice). IsPicked asked depth lows highs found) some picked))))
