-- Conditions by their numbers.
use Rattle.std.proofs.Common.{◌≡◌, refl, ap, ◌∙◌, ℕ, ◌<◌, List, length, get_or, map, Some}
use Rattle.std.specs.Prelude.{slice_get}
use Rattle.std.specs.Borrow.{Bor}
use Rattle.std.specs.Option.{option_map}
use Rattle.std.proofs.lemmas.Option.{slice_get_read, slice_get-map}
use Rattle.sopl_ast.specs.References.{now_of}
use Rattle.sopl_ast.specs.Tree.{Tree}

-- the condition with a number, as it is looked up
pub condition_there : (conditions : List (Bor Tree)) (text : ℕ) (e : Bor Tree) → text < length conditions → e ≡ get_or conditions text e
    → slice_get (map now_of conditions) text ≡ Some e.now
condition_there conditions text e below at =
    slice_get-map now_of conditions text ∙ ap (option_map now_of) (slice_get_read conditions (length conditions) text e refl below at)
