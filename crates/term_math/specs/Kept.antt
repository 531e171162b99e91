-- What arrays stand for as they are kept.
use Rattle.std.specs.Prelude.{ℕ, ℤ, List, [], ◌∷◌, take, drop, Option, Some, None, if◌then◌else◌}
use Rattle.std.specs.Ordering.{int_eq}
use Rattle.term_language.specs.Terms as rule
pub use Rattle.term_math.specs.Ascending.{item_of, items_of, sets_of}
use Rattle.term_math.specs.declared.tables.Table.{Table}

abbrev pub table_of : Table → rule.Table
table_of t = record { sets = sets_of t.sets.items; items = items_of t.elements.items }

-- what stands at the indices that begin with a number: so much for each number of the set
abbrev pub block : {A : Type 0} → ℤ → List ℤ → ℕ → List A → Option (List A)
block number [] width items = None
block number (here ∷ set) width items =
    if int_eq here number then Some (take width items) else block number set width (drop width items)
