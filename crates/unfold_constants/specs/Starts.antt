-- From where on a name may stand among those that are bound.
use Rattle.std.specs.Prelude.{ℕ, Bool, List, nat_eq, if◌then◌else◌}
use Rattle.std.specs.Borrow.{Bor}
use Rattle.std.specs.Cmp.Lexicographic.{pointwise}
use Rattle.std.specs.Map.{lookup}
use Rattle.std.specs.Option.{unwrap_or}

-- the place that is kept of a name, or that behind all others; where no places are kept, the first
abbrev pub start_in : Bool → List ℕ → List (Bor (List ℕ) × ℕ) → ℕ → ℕ
start_in indexed name places end = if indexed then unwrap_or (lookup (λ key. pointwise nat_eq name key.now) places) end else 0
