-- Boxes with the same ends.
use Rattle.std.proofs.Common.{◌≡◌, ℤ, List, ap₂}
use Rattle.box_problem.specs.Box.{Box}

pub same_box : (b c : Box) → b.lows ≡ c.lows → b.highs ≡ c.highs → b ≡ c
same_box b c lows highs = ap₂ (λ (xs ys : List ℤ). record { lows = xs; highs = ys }) lows highs
