-- What an array over one index set tells of that set.
use Rattle.std.proofs.Common.{◌≡◌, ℤ, true, List, [], ◌∷◌, Vec, Global, subst}
use Rattle.term_language.proofs.FormValues.{and_first}
use Rattle.term_math.specs.Ascending.{all_ascend, ascends}
use Rattle.term_math.specs.declared.tables.Table.{Table}

pub only_ascends : (table : Table) (only : Vec ℤ Global) (set : List ℤ) → table.sets.items ≡ only ∷ [] → only.items ≡ set → table.ascending ≡ true → ascends set ≡ true
only_ascends table only set sets is told =
    subst (λ (numbers : List ℤ). ascends numbers ≡ true) is
    (and_first (ascends only.items) true (subst (λ (list : List (Vec ℤ Global)). all_ascend list ≡ true) sets (table.ascend told)))
