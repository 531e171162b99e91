-- What is known at a constant place: what binders give their names, the elements of constants, and the ranges and sets.
use Rattle.std.specs.Prelude.{ℕ, ℤ, pos, Bool, ◌&&◌, List, [], ◌∷◌, ◌++◌, Option, Some, None, if◌then◌else◌}
use Rattle.std.specs.Cmp.Lexicographic.{pointwise}
use Rattle.std.specs.Ordering.{int_eq}
use Rattle.std.specs.Str.{bytes_eq}
use Rattle.sopl_ast.specs.Numbers.{or_else, up_to}

-- a name and the number that a binder gives it
pub record Binding : Type 0 where
  pub name : List ℕ
  pub value : ℤ

-- an element of a constant: its name, its index (none for a scalar) and its value
pub record Constant : Type 0 where
  pub name : List ℕ
  pub index : List ℤ
  pub value : ℤ

-- the numbers of a range, by its two ends; or those of a set, in ascending order
pub data NumberSet : Type 0 where
  Between : ℤ → ℤ → NumberSet
  Listed : List ℤ → NumberSet

-- a range or a set: its name and its numbers
pub record NamedSet : Type 0 where
  pub name : List ℕ
  pub numbers : NumberSet

-- what is known: the bound names, the constants, and the ranges and sets, each in the order in which they came
pub record Known : Type 0 where
  pub bound : List Binding
  pub constants : List Constant
  pub sets : List NamedSet

-- nothing is known
abbrev pub nothing_known : Known
nothing_known = record { bound = []; constants = []; sets = [] }

-- what is known where a binder gives its name a value
abbrev pub with_bound : List ℕ → ℤ → Known → Known
with_bound name value known = record known { bound = known.bound ++ (record { name = name; value = value }) ∷ [] }

-- whether two lists of whole numbers are the same
abbrev pub same_values : List ℤ → List ℤ → Bool
same_values xs ys = pointwise int_eq xs ys

-- a name and an index are those asked for
abbrev pub is_at : List ℕ → List ℤ → List ℕ → List ℤ → Bool
is_at name index other_name other_index = bytes_eq name other_name && same_values index other_index

-- what a binder gives a name without an index
abbrev pub bound_value : List ℕ → List ℤ → List Binding → Option ℤ
bound_value name index [] = None
bound_value name index (first ∷ later) =
    if is_at name index first.name [] then Some first.value else bound_value name index later

-- the value of a constant's element
abbrev pub constant_value : List ℕ → List ℤ → List Constant → Option ℤ
constant_value name index [] = None
constant_value name index (first ∷ later) =
    if is_at name index first.name first.index then Some first.value else constant_value name index later

-- what is known of a name and an index: what a binder gives it, else the element of a constant
abbrev pub known_value : Known → List ℕ → List ℤ → Option ℤ
known_value known name index = or_else (bound_value name index known.bound) (constant_value name index known.constants)

-- the range or set of a name
abbrev pub set_named : List ℕ → List NamedSet → Option NumberSet
set_named name [] = None
set_named name (first ∷ later) = if bytes_eq name first.name then Some first.numbers else set_named name later

-- the numbers of a range or set, in ascending order; none where there is none
abbrev pub ascending : Option NumberSet → List ℤ
ascending None = []
ascending (Some (Between lo hi)) = up_to lo hi
ascending (Some (Listed numbers)) = numbers

-- the ends of a range; those of no number where it is no range
abbrev pub ends_of : Option NumberSet → ℤ × ℤ
ends_of (Some (Between lo hi)) = (lo, hi)
ends_of (Some (Listed numbers)) = (pos 1, pos 0)
ends_of None = (pos 1, pos 0)
