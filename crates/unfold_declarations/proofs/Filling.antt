-- An expression for each index of an array.
use Rattle.std.proofs.Common.{◌≡◌, refl, ℕ, ℤ, true, List, [], ◌∷◌, Ok}
use Rattle.sopl_ast.specs.Tree.{Tree}
use Rattle.sopl_ast.specs.Known.{Known}
use Rattle.sopl_ast.specs.Arrays.{Dimension}
use Rattle.unfold_constants.specs.Evaluation.{Step}
use Rattle.unfold_declarations.specs.Declaring.{Entry, fill}
use Rattle.unfold_declarations.specs.Places.{Place, give_dimension, each_number, any_empty}
use Rattle.unfold_declarations.proofs.Walking.{nothing}

-- what is found at a place, where these dimensions are left
abbrev pub filled : Tree → List Dimension → Place → List Entry → Step (List Entry)
filled e ds place found = fill place.known ds e place.index found

-- it goes by dimensions
pub by_dimension : (e : Tree) (d : Dimension) (ds : List Dimension) (place : Place) (found : List Entry) (count : ℕ)
    → filled e (d ∷ ds) place found count ≡ each_number (λ n more. filled e ds (give_dimension d.name n place) more) d.numbers found count
by_dimension e d ds place found count = refl

-- where a dimension is empty, nothing is found
pub nothing_filled : (known : Known) (ds : List Dimension) (e : Tree) (index : List ℤ) (found : List Entry) (count : ℕ) → any_empty ds ≡ true
    → fill known ds e index found count ≡ Ok (found, count)
nothing_filled known ds e index found count is = nothing (filled e) (by_dimension e) ds (record { known = known; index = index }) found count is

pub ruleset filling = (nothing_filled)
