-- The array of a name in a scenario.
use Rattle.std.specs.Prelude.{ℕ, ℤ, List, map}
use Rattle.std.specs.declared.alloc.Global.{Global}
use Rattle.std.specs.declared.vec.Vec.{Vec}
use Rattle.sopl_scen.specs.Layout.{Layout}
use Rattle.term_language.specs.Terms.{Item, Table}
use Rattle.compile_names.specs.declared.arrays.Array.{Array}
use Rattle.compile_names.specs.declared.origins.Source.{Source}
use Rattle.compile_names.specs.Variables.{item_from}

-- an array as a table of a scenario
abbrev pub table_in : Layout → ℕ → Array → Table
table_in tree scenario array =
    record { sets = map (λ (set : Vec ℤ Global). set.items) array.sets.items; items = map (item_from tree scenario) array.origins.items }

-- the index of an element, and the items of elements in a scenario
abbrev pub index_shown : Source → List ℤ
index_shown source = source.index.now

abbrev pub items_in : Layout → ℕ → List Source → List Item
items_in tree scenario sources = map (λ (source : Source). item_from tree scenario source.origin) sources
