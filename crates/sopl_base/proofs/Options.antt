-- Options.
use Rattle.std.proofs.Common.{ℤ, Some, ◌≡◌, Option, option_map, pos, ◌+ℤ◌, None, refl, ap}
use Rattle.std.proofs.Math.IntN.{+ℤ_idl}

pub some_equal : {a b : ℤ} → Some a ≡ Some b → a ≡ b
some_equal e = cc

pub some_turned : (v bound : ℤ) → Some v ≡ Some bound → bound ≡ v
some_turned v bound same = cc

pub zero_before : (v : Option ℤ) → option_map (λ s. pos 0 +ℤ s) v ≡ v
zero_before None = refl
zero_before (Some s) = ap Some (+ℤ_idl s)
