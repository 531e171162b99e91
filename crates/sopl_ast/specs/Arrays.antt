-- Arrays: their dimensions, their indices, and what is known at each index.
use Rattle.std.specs.Prelude.{ℕ, ℤ, List, [], ◌∷◌, ◌++◌, map, Option, Some, None}
use Rattle.std.specs.List.{flat_map}
use Rattle.sopl_ast.specs.Whole.{DimTree}
use Rattle.sopl_ast.specs.Known.{Known, with_bound}
use Rattle.sopl_ast.specs.Constants.{numbers_in}
use Rattle.sopl_ast.specs.UnfoldEvents.{UnfoldEvent, Counted, range_events}

-- a dimension of an array: the name that stands for its index, if it has one, and the numbers of its index set
pub record Dimension : Type 0 where
  pub name : Option (List ℕ)
  pub numbers : List ℤ

-- the dimensions of an array
abbrev pub dimensions_of : Known → List DimTree → List Dimension
dimensions_of known dims = map (λ (d : DimTree). record { name = d.binder; numbers = numbers_in known d.range }) dims

-- the indices of an array, in lexicographic order; a scalar has the one that is empty
abbrev pub indices : List Dimension → List (List ℤ)
indices [] = [] ∷ []
indices (d ∷ ds) = flat_map (λ number. map (λ later. number ∷ later) (indices ds)) d.numbers

-- what is known where the name of a dimension, if there is one, stands for a number
abbrev pub taking : Option (List ℕ) → ℤ → Known → Known
taking None number known = known
taking (Some name) number known = with_bound name number known

-- what is known where the names of the dimensions stand for an index
abbrev pub with_index : List Dimension → List ℤ → Known → Known
with_index [] index known = known
with_index (d ∷ ds) [] known = known
with_index (d ∷ ds) (number ∷ index) known = with_index ds index (taking d.name number known)

-- what is made at each index of an array, from the index and what is known there
abbrev pub array_of : {A : Type 0} → Known → List DimTree → (List ℤ → Known → A) → List A
array_of known dims make =
    map (λ index. make index (with_index (dimensions_of known dims) index known)) (indices (dimensions_of known dims))

-- the dimensions of an array, of which the ranges are constant places
abbrev pub dimension_events : Known → List DimTree → List UnfoldEvent
dimension_events known dims = flat_map (λ (d : DimTree). range_events known None d.range) dims

-- the dimensions of an array, and then its elements, of which each is counted before what is met in it
abbrev pub array_events : Known → List DimTree → (Known → List UnfoldEvent) → List UnfoldEvent
array_events known dims each =
    dimension_events known dims
    ++ flat_map (λ index. Counted ∷ each (with_index (dimensions_of known dims) index known)) (indices (dimensions_of known dims))
