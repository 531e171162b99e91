use Rattle.std.proofs.Common.{◌≡◌, ◌+◌, ◌*◌, true, nat_eq, ◌||◌, drop, length, map, option_map}
use Rattle.std.specs.Borrow.{Bor}
use Rattle.std.specs.Prelude.{ℕ, List}
use Rattle.sopl_ast.specs.Inits.{init_tree}
use Rattle.sopl_ast.specs.Whole.{inits}
use Rattle.sopl_ast.specs.WholeWeight.{weight_init, weight_inits}
use Rattle.unfold_tables.specs.Tables.{elements_in, shown}
use Rattle.unfold_constants.specs.Here.{known_in}
use Rattle.unfold_declarations.specs.Declaring as spec
use Rattle.unfold_declarations.specs.Places.{any_empty}
use Rattle.unfold_declarations.specs.Shown.{dimensions_in}
use Rattle.unfold_declarations.proofs.elements.+part.Given as goal

abbrev pub decreases-part : goal.decreases-part
decreases-part l = 3 * weight_init (init_tree l.init.now)

abbrev pub decreases-parts_in : goal.decreases-parts_in
decreases-parts_in l = 3 * weight_inits (inits (map init_tree l.parts.now))

abbrev pub decreases-part_at : goal.decreases-part_at
decreases-part_at l = 3 * weight_init (init_tree l.x.now) + 1

abbrev pub decreases-bracket : goal.decreases-bracket
decreases-bracket l = 3 * weight_inits (inits (map init_tree l.parts.now)) + 1

abbrev pub invariant-parts_in-parts : goal.invariant-parts_in-parts
invariant-parts_in-parts l = record {
  walked :
      spec.parts_in (known_in l.prefix.known) (option_map (λ (n : Bor (List ℕ)). n.now) l.first.name) (dimensions_in l.later.dimensions.now) (shown l.left) l.prefix.index.items
      (inits (map init_tree (drop l.x-index l.parts))) (elements_in l.found) l.count.counted
      ≡ spec.parts_in (known_in l.prefix.known) (option_map (λ (n : Bor (List ℕ)). n.now) l.first.name) (dimensions_in l.later.dimensions.now) (shown l.first.numbers) l.prefix.index.items
      (inits (map init_tree l.parts)) (elements_in l.fn.found) l.fn.count.counted;
  hollow : l.later.hollow ≡ true → (nat_eq 0 (length (shown l.left)) || any_empty (dimensions_in l.later.dimensions.now)) ≡ true;
}
