-- The first of some mistakes: the one with the least place, and of those at one place the one with the least code.
use Rattle.std.specs.Prelude.{Bool, ◌&&◌, ◌||◌, nat_lt, nat_eq, nat_le, List, [], ◌∷◌, Option, Some, None, if◌then◌else◌}
use Rattle.sopl_base.specs.declared.fault.Refusal.{Refusal}

-- whether the one mistake counts and not the other
abbrev pub comes_first : Refusal → Refusal → Bool
comes_first a b = nat_lt a.at b.at || (nat_eq a.at b.at && nat_le a.code b.code)

-- the earlier of two mistakes
abbrev pub sooner : Refusal → Refusal → Refusal
sooner a b = if comes_first a b then a else b

-- the earlier of two mistakes, if there are any
abbrev pub earlier_of : Option Refusal → Option Refusal → Option Refusal
earlier_of None b = b
earlier_of (Some a) None = Some a
earlier_of (Some a) (Some b) = Some (sooner a b)

-- the first of some mistakes, if there is one
abbrev pub earliest : List Refusal → Option Refusal
earliest [] = None
earliest (r ∷ rs) = earlier_of (Some r) (earliest rs)
