-- Values that lie outside the domains of their cells; a domain is given by its ends.
use Rattle.std.specs.Prelude.{ℕ, ℤ, Bool, false, ◌||◌, List, [], ◌∷◌, Option, Some, None, slice_get, int_lt, if◌then◌else◌}
use Rattle.std.specs.Option.{option_map_or}
use Rattle.policy_read.specs.declared.entry.Told.{Told}

-- the least value of a domain
abbrev pub low_in : ℤ × ℤ → ℤ
low_in domain = domain.0

-- a value lies outside the domain of its cell
abbrev pub is_outside : List (ℤ × ℤ) → Told → Bool
is_outside domains told =
    option_map_or (λ (d : ℤ × ℤ). int_lt told.value d.0 || int_lt d.1 told.value) (slice_get domains told.cell) false

-- the cell of the first value that does, as printed
abbrev pub first_outside : List (ℤ × ℤ) → List Told → Option ℕ
first_outside domains [] = None
first_outside domains (t ∷ ts) = if is_outside domains t then Some t.cell else first_outside domains ts
