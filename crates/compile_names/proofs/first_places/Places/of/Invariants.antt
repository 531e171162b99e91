use Rattle.std.proofs.Common.{◌≡◌, ℤ, List, map, drop}
use Rattle.sopl_ast.specs.Numbers.{or_else}
use Rattle.sopl_ast.specs.References.{now_of}
use Rattle.compile_names.specs.Kept.{place_in}
use Rattle.compile_names.specs.Plans.{place_among}
use Rattle.compile_names.proofs.first_places.Places.of.Given as goal

abbrev pub invariant-given : goal.invariant-given
invariant-given l =
    (other : List ℤ) → or_else (place_in l.places other) (place_among l.place (map now_of (drop l.place l.given)) other) ≡ place_among 0 (map now_of l.given) other
