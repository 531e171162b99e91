-- What dimensions, prefixes and open dimensions show.
use Rattle.std.specs.Prelude.{ℕ, List, Option, option_map, map, reverse}
use Rattle.std.specs.Borrow.{Bor}
use Rattle.sopl_ast.specs.Arrays.{Dimension}
use Rattle.unfold_tables.specs.Tables.{shown}
use Rattle.unfold_constants.specs.Choosing.{OpenChoice, Among}
use Rattle.unfold_constants.specs.Here.{known_in}
use Rattle.unfold_declarations.specs.Places.{Place}
use Rattle.unfold_declarations.specs.declared.arrays.Dimension as d
use Rattle.unfold_declarations.specs.declared.arrays.IndexPrefix as f
use Rattle.unfold_declarations.specs.declared.arrays.IndexWalk as w

-- a dimension
abbrev pub dimension_in : d.Dimension → Dimension
dimension_in dimension = record { name = option_map (λ (n : Bor (List ℕ)). n.now) dimension.name; numbers = shown dimension.numbers }

-- dimensions in order
abbrev pub dimensions_in : List d.Dimension → List Dimension
dimensions_in ds = map dimension_in ds

-- a place
abbrev pub prefix_in : f.IndexPrefix → Place
prefix_in prefix = record { known = known_in prefix.known; index = prefix.index.items }

-- a dimension that is open, among the numbers that it has
abbrev pub open_dimension : d.Dimension → OpenChoice (Option (List ℕ))
open_dimension dimension = Among (option_map (λ (n : Bor (List ℕ)). n.now) dimension.name) (shown dimension.numbers)

-- the dimensions that are open
abbrev pub dimensions_open : w.IndexWalk → List (OpenChoice (Option (List ℕ)))
dimensions_open walk = reverse (map open_dimension walk.kept.items)
