-- How many binary digits it takes to name a point of a box.
use Rattle.std.specs.Prelude.{ℕ, ◌+◌, ◌^◌, ℤ, nat_le, List, [], ◌∷◌, length, filter}
use Rattle.std.specs.Int.{int_gap}
use Rattle.std.specs.List.{range_with_len}
use Rattle.box_problem.specs.Box.{Box}

-- the binary digits of a number: as many as there are powers of 2 up to it; numbers here are below 2 ^ 64
unfoldable pub digits : ℕ → ℕ
digits n = length (filter (λ k. nat_le (2 ^ k) n) (range_with_len 0 64))

-- for each cell, as many as its upper end less its lower end has binary digits, as the limit on the bits of decisions counts them
abbrev pub bits_between : List ℤ → List ℤ → ℕ
bits_between [] highs = 0
bits_between (lo ∷ lows) [] = 0
bits_between (lo ∷ lows) (hi ∷ highs) = digits (int_gap lo hi) + bits_between lows highs

-- the bits of a box
abbrev pub bits_in : Box → ℕ
bits_in b = bits_between b.lows b.highs
