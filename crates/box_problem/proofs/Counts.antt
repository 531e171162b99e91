-- How many points the parts of a cut have, and how wide they are.
use Rattle.std.proofs.Common.{◌≡◌, ℕ, zero, suc, ◌+◌, ◌*◌, ◌<◌, ◌≤◌, ℤ, pos, negsuc, ◌+ℤ◌, ◌-ℤ◌, ◌≤ℤ◌, ◌<ℤ◌, List, [], ◌∷◌, length, get_or, set, arith, ap, subst}
use Rattle.std.specs.Int.{int_gap}
use Rattle.std.proofs.lemmas.Int.{ints}
use Rattle.sopl_base.specs.declared.reason.Side.{Side}
use Rattle.sopl_base.specs.declared.reason.Side.TheVariants.{Le, Ge}
use Rattle.box_problem.specs.Box.{Box, with_low, with_high, IsBox, points_between, points, width_between, width}
use Rattle.box_problem.specs.Steps.{IsCut, narrowed, cut_away}

-- the gap leads from the one number to the other
pub gap_leads : (lo hi : ℤ) → lo ≤ℤ hi → lo +ℤ pos (int_gap lo hi) ≡ hi
gap_leads (pos a) (pos b) order = omega (arith, ints)
gap_leads (pos a) (negsuc b) order = omega (arith, ints)
gap_leads (negsuc a) (pos b) order = omega (arith, ints)
gap_leads (negsuc a) (negsuc b) order = omega (arith, ints)

-- a cut shares out the values of an interval
gap_shared : (lo k hi : ℤ) → lo ≤ℤ k → k <ℤ hi → int_gap lo k + 1 + int_gap (k +ℤ pos 1) hi ≡ int_gap lo hi
gap_shared lo k hi above below =
    omega (arith, ints, gap_leads lo k above, gap_leads (k +ℤ pos 1) hi (omega (arith, ints)), gap_leads lo hi (omega (arith, ints)))

shared_product : (a b c n : ℕ) → a + 1 + b ≡ c → (a + 1) * n + (b + 1) * n ≡ (c + 1) * n
shared_product a b c n is = omega (arith, ap (λ m. (m + 1) * n) is)

kept_product : (w a b c : ℕ) → a + b ≡ c → w * a + w * b ≡ w * c
kept_product w a b c is = omega (arith, ap (λ m. w * m) is)

points_shared : (lows highs : List ℤ) (cell : ℕ) (k : ℤ) → cell < length lows → length highs ≡ length lows → get_or lows cell (pos 0) ≤ℤ k → k <ℤ get_or highs cell (pos 0)
    → points_between lows (set highs cell k) + points_between (set lows cell (k +ℤ pos 1)) highs ≡ points_between lows highs
points_shared [] highs cell k exists paired above below = absurd (omega arith)
points_shared (lo ∷ lows) [] cell k exists paired above below = absurd (omega arith)
points_shared (lo ∷ lows) (hi ∷ highs) zero k exists paired above below =
    shared_product (int_gap lo k) (int_gap (k +ℤ pos 1) hi) (int_gap lo hi) (points_between lows highs) (gap_shared lo k hi above below)
points_shared (lo ∷ lows) (hi ∷ highs) (suc cell) k exists paired above below =
    kept_product (int_gap lo hi + 1) (points_between lows (set highs cell k)) (points_between (set lows cell (k +ℤ pos 1)) highs) (points_between lows highs)
    (points_shared lows highs cell k (omega arith) (omega arith) above below)

pub cuts_count : (b : Box) (cell : ℕ) (side : Side) (k : ℤ) → IsBox b → IsCut b cell side k → points (narrowed b cell side k) + points (cut_away b cell side k) ≡ points b
cuts_count b cell Le k is_box cut =
    points_shared b.lows b.highs cell k cut.exists is_box.paired cut.between.0 cut.between.1
cuts_count b cell Ge k is_box cut =
    let back : (k -ℤ pos 1) +ℤ pos 1 ≡ k = omega (arith, ints) in
    let shared = points_shared b.lows b.highs cell (k -ℤ pos 1) cut.exists is_box.paired (omega (arith, ints, cut.between.0)) (omega (arith, ints, cut.between.1)) in
    omega (arith, subst (λ (z : ℤ). points (with_high b cell (k -ℤ pos 1)) + points (with_low b cell z) ≡ points b) back shared)

pub points_alive : (lows highs : List ℤ) → 1 ≤ points_between lows highs
points_alive [] highs = omega arith
points_alive (lo ∷ lows) [] = omega arith
points_alive (lo ∷ lows) (hi ∷ highs) = omega (arith, points_alive lows highs)

pub gap_above : (lo k hi : ℤ) → lo ≤ℤ k → k <ℤ hi → int_gap lo k < int_gap lo hi
gap_above lo k hi above below =
    omega (arith, ints, gap_leads lo k above, gap_leads lo hi (omega (arith, ints)))

pub gap_below : (lo k hi : ℤ) → lo <ℤ k → k ≤ℤ hi → int_gap k hi < int_gap lo hi
gap_below lo k hi above below =
    omega (arith, ints, gap_leads k hi below, gap_leads lo hi (omega (arith, ints)))

pub width_lowered : (lows highs : List ℤ) (cell : ℕ) (k : ℤ) → cell < length lows → length highs ≡ length lows → get_or lows cell (pos 0) ≤ℤ k → k <ℤ get_or highs cell (pos 0)
    → width_between lows (set highs cell k) < width_between lows highs
width_lowered [] highs cell k exists paired above below = absurd (omega arith)
width_lowered (lo ∷ lows) [] cell k exists paired above below = absurd (omega arith)
width_lowered (lo ∷ lows) (hi ∷ highs) zero k exists paired above below = omega (arith, gap_above lo k hi above below)
width_lowered (lo ∷ lows) (hi ∷ highs) (suc cell) k exists paired above below =
    omega (arith, width_lowered lows highs cell k (omega arith) (omega arith) above below)

pub width_raised : (lows highs : List ℤ) (cell : ℕ) (k : ℤ) → cell < length lows → length highs ≡ length lows → get_or lows cell (pos 0) <ℤ k → k ≤ℤ get_or highs cell (pos 0)
    → width_between (set lows cell k) highs < width_between lows highs
width_raised [] highs cell k exists paired above below = absurd (omega arith)
width_raised (lo ∷ lows) [] cell k exists paired above below = absurd (omega arith)
width_raised (lo ∷ lows) (hi ∷ highs) zero k exists paired above below = omega (arith, gap_below lo k hi above below)
width_raised (lo ∷ lows) (hi ∷ highs) (suc cell) k exists paired above below =
    omega (arith, width_raised lows highs cell k (omega arith) (omega arith) above below)

pub cuts_narrow : (b : Box) (cell : ℕ) (side : Side) (k : ℤ) → IsBox b → IsCut b cell side k → (width (narrowed b cell side k) < width b) × (width (cut_away b cell side k) < width b)
cuts_narrow b cell Le k is_box cut = (
  width_lowered b.lows b.highs cell k cut.exists is_box.paired cut.between.0 cut.between.1,
  width_raised b.lows b.highs cell (k +ℤ pos 1) cut.exists is_box.paired (omega (arith, ints, cut.between.0)) (omega (arith, ints, cut.between.1)),
)
cuts_narrow b cell Ge k is_box cut = (
  width_raised b.lows b.highs cell k cut.exists is_box.paired cut.between.0 cut.between.1,
  width_lowered b.lows b.highs cell (k -ℤ pos 1) cut.exists is_box.paired (omega (arith, ints, cut.between.0)) (omega (arith, ints, cut.between.1)),
)
