-- What stands at each index of an array.
use Rattle.std.proofs.Common.{◌≡◌, refl, ℕ, ℤ, true, List, [], ◌∷◌, Ok}
use Rattle.sopl_ast.specs.Known.{Known}
use Rattle.sopl_ast.specs.Arrays.{Dimension}
use Rattle.unfold_constants.specs.Evaluation.{Step}
use Rattle.unfold_declarations.specs.Places.{Place, give_dimension, each_number, any_empty}
use Rattle.unfold_declarations.proofs.Walking.{nothing}
use Rattle.unfold_variables.specs.Listing as spec

module _ {A : Type 0} (element : Known → List ℤ → Step A) where
  -- what stands behind a place, where these dimensions are left
  abbrev pub listed : List Dimension → Place → List A → Step (List A)
  listed ds place found = spec.listed element place.known ds place.index found

  -- it goes by dimensions
  pub by_dimension : (d : Dimension) (ds : List Dimension) (place : Place) (found : List A) (count : ℕ)
      → listed (d ∷ ds) place found count ≡ each_number (λ n more. listed ds (give_dimension d.name n place) more) d.numbers found count
  by_dimension d ds place found count = refl

  -- where a dimension is empty, nothing is found
  pub nothing_listed : (known : Known) (ds : List Dimension) (index : List ℤ) (found : List A) (count : ℕ) → any_empty ds ≡ true
      → spec.listed element known ds index found count ≡ Ok (found, count)
  nothing_listed known ds index found count is = nothing listed by_dimension ds (record { known = known; index = index }) found count is

pub ruleset listing = (nothing_listed)
