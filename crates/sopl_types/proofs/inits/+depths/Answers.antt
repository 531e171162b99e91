use Rattle.std.proofs.Common.{sym, ap, ◌∙◌, map}
use Rattle.sopl_ast.specs.Inits.{init_tree}
use Rattle.sopl_ast.specs.Mistakes.{first_of}
use Rattle.sopl_ast.specs.Whole.{Many, inits}
use Rattle.sopl_types.specs.Depths.{wrong_left, wrong_left_parts}
use Rattle.sopl_types.specs.Earliest.{earliest}
use Rattle.sopl_types.proofs.DepthLemmas.{full_many, some_there}
use Rattle.sopl_types.proofs.inits.+depths.Goals as goal

-- a bracket with something in it
pub wrong_inside-returns-else-is_empty : goal.wrong_inside-returns-else-is_empty
wrong_inside-returns-else-is_empty t c =
    let parts = c.as_slice-parts.result.now in
    c.wrong_parts.ensures
    ∙ ap (λ left. earliest (first_of (wrong_left_parts left (inits (map init_tree parts))))) c.one_less.ensures
    ∙ ap (λ ms. earliest (first_of ms)) (sym (full_many c.args.left c.in-Many.at (map init_tree parts) (some_there parts (sym c.is_empty.ensures ∙ c.if-is_empty.false))))
    ∙ ap (λ xs. earliest (first_of (wrong_left c.args.left (Many c.in-Many.at (inits xs))))) c.as_slice-parts.ensures.items
    ∙ ap (λ value. earliest (first_of (wrong_left c.args.left (init_tree value)))) (sym c.in-Many.is)
