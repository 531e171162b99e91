-- The intervals of the cells of a box, cell after cell.
use Rattle.std.proofs.Common.{◌≡◌, ◌∙◌, refl, ap, arith, ℕ, ◌+◌, ◌<◌, ◌≤◌, ◌^◌, ℤ, List, [], ◌∷◌, ◌++◌, length, map, take}
use Rattle.std.proofs.lemmas.List.{length-map, take_all}
use Rattle.sopl_base.specs.declared.interval.Interval.{Interval}
use Rattle.box_problem.specs.Box.{Box, box_of, low, high, IsBox}
use Rattle.box_problem.proofs.Shared.{one_more}

abbrev lo_of : Interval → ℤ
lo_of i = i.lo

abbrev hi_of : Interval → ℤ
hi_of i = i.hi

-- the intervals are those of the first cells
pub record AreFirst (b : Box) (count : ℕ) (roots : List Interval) : Type 0 where
  pub lows : map lo_of roots ≡ take count b.lows
  pub highs : map hi_of roots ≡ take count b.highs

pub first_none : (b : Box) → AreFirst b 0 []
first_none b = record { lows = refl; highs = refl }

-- those of one cell more
pub first_more : (b : Box) (i : ℕ) (roots new : List Interval) (root : Interval) → IsBox b → i < length b.lows → AreFirst b i roots → root.lo ≡ low b i → root.hi ≡ high b i → new ≡ roots
    ++ root ∷ [] → AreFirst b (i + 1) new
first_more b i roots new root is_box below first lo hi pushed =
    let paired = is_box.paired in record {
      lows = ap (map lo_of) pushed ∙ one_more lo_of b.lows i roots root below first.lows lo;
      highs = ap (map hi_of) pushed ∙ one_more hi_of b.highs i roots root (omega (arith, below, paired)) first.highs hi;
    }

-- those of all cells
pub first_all : (b : Box) (i : ℕ) (roots : List Interval) → IsBox b → length b.lows ≤ i → AreFirst b i roots → box_of roots ≡ b
first_all b i roots is_box all first =
    let paired = is_box.paired in
    λ j. record {
      lows = (first.lows ∙ take_all i b.lows all) j;
      highs = (first.highs ∙ take_all i b.highs (omega (arith, all, paired))) j;
    }

-- and so there are no more than cells
pub few_roots : (b : Box) (i n : ℕ) (roots : List Interval) → IsBox b → length b.lows ≤ i → AreFirst b i roots → n ≡ length b.lows → n < 2 ^ 32 → length roots < 2 ^ 32
few_roots b i n roots is_box all first count few =
    let same : length (map lo_of roots) ≡ length b.lows = ap (λ (box : Box). length box.lows) (first_all b i roots is_box all first) in
    omega (arith, same, length-map roots lo_of, count, few)
