-- Where the entries of a name begin.
use Rattle.std.specs.Prelude.{ℕ, List, nat_eq}
use Rattle.std.specs.Cmp.Lexicographic.{pointwise}
use Rattle.std.specs.Map.{lookup}
use Rattle.std.specs.Option.{unwrap_or}
use Rattle.std.specs.declared.alloc.Global.{Global}
use Rattle.std.specs.declared.vec.Vec.{Vec}

-- the place of a name, or that behind all others
abbrev pub start_of : List ℕ → List (Vec ℕ Global × ℕ) → ℕ → ℕ
start_of name places end = unwrap_or (lookup (λ key. pointwise nat_eq name key.items) places) end
