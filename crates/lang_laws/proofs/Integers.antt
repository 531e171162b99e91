-- Products of whole numbers.
use Rattle.std.proofs.Common.{◌≡◌, ℤ, pos, ◌*ℤ◌, ◌∙◌}
use Rattle.std.proofs.Math.IntN.{*ℤ-one, *ℤ_comm, one}

-- once a number
pub one-*ℤ : (a : ℤ) → pos 1 *ℤ a ≡ a
unfolding one
one-*ℤ a = *ℤ_comm (pos 1) a ∙ *ℤ-one a
