-- What is kept while an array is planned, in the words of the definitions.
use Rattle.std.specs.Prelude.{ℕ, ℤ, pos, List, [], ◌++◌, map, Option, get_or}
use Rattle.std.specs.BTreeSet.{insert_key}
use Rattle.std.specs.Cmp.Lexicographic.{pointwise}
use Rattle.std.specs.List.{fold}
use Rattle.std.specs.Map.{lookup}
use Rattle.std.specs.Ordering.{int_cmp, int_eq}
use Rattle.std.specs.declared.alloc.Global.{Global}
use Rattle.std.specs.declared.vec.Vec.{Vec}
use Rattle.term_language.specs.Arrays.{indices}
use Rattle.term_math.specs.Kept.{sets_of}
use Rattle.compile_names.specs.declared.first_places.Places.{Places}

-- the numbers that stand at a place of indices, in ascending order and each once
abbrev pub column : List (List ℤ) → ℕ → List ℤ
column given place = fold (insert_key int_cmp) [] (map (λ index. get_or index place (pos 0)) given)

-- the place that is noted for an index
abbrev pub place_in : Places → List ℤ → Option ℕ
place_in places index = lookup (λ key. pointwise int_eq index key.items) places.first.entries

-- the places that are noted for the indices that begin with these numbers and go on in these sets, in lexicographic order
abbrev pub places_behind : Places → List ℤ → List (Vec ℤ Global) → List (Option ℕ)
places_behind places numbers sets = map (λ later. place_in places (numbers ++ later)) (indices (sets_of sets))
