-- A box in which one cell has another interval.
use Rattle.std.proofs.Common.{◌≡◌, ℕ, ℤ, pos, List, ap, ◌∙◌}
use Rattle.std.proofs.lemmas.List.{set-get_or}
use Rattle.box_problem.specs.Box.{Box, high, low, with_high, with_low}
use Rattle.term_program.specs.Programs.{with_interval}

-- a box by its ends
abbrev box_with : List ℤ → List ℤ → Box
box_with lows highs = record { lows = lows; highs = highs }

-- an end that is set to what it is
pub same_low : (b : Box) (cell : ℕ) → with_low b cell (low b cell) ≡ b
same_low b cell = ap (λ (lows : List ℤ). box_with lows b.highs) (set-get_or b.lows cell (pos 0))

pub same_high : (b : Box) (cell : ℕ) → with_high b cell (high b cell) ≡ b
same_high b cell = ap (λ (highs : List ℤ). box_with b.lows highs) (set-get_or b.highs cell (pos 0))

-- an interval with the lower end, or the upper end, as it is
pub part_low : (b : Box) (cell : ℕ) (lo hi k : ℤ) → lo ≡ low b cell → hi ≡ k → with_interval b cell lo hi ≡ with_high b cell k
part_low b cell lo hi k is same =
    ap (λ (z : ℤ). with_interval b cell z hi) is
    ∙ (ap (λ (z : ℤ). with_interval b cell (low b cell) z) same ∙ ap (λ (box : Box). with_high box cell k) (same_low b cell))

pub part_high : (b : Box) (cell : ℕ) (lo hi k : ℤ) → lo ≡ k → hi ≡ high b cell → with_interval b cell lo hi ≡ with_low b cell k
part_high b cell lo hi k same is =
    ap (λ (z : ℤ). with_interval b cell z hi) same
    ∙ (ap (λ (z : ℤ). with_interval b cell k z) is ∙ ap (λ (highs : List ℤ). box_with (with_low b cell k).lows highs) (set-get_or b.highs cell (pos 0)))
