use Rattle.std.proofs.Common.{ap, ◌∙◌, ◌+◌, drop}
use Rattle.sopl_ast.specs.Lists.{terms, factors}
use Rattle.sopl_ast.specs.Mistakes.{of_terms, of_factors}
use Rattle.sopl_types.specs.Earliest.{earlier_of, earliest}
use Rattle.sopl_types.specs.Known.{known_in}
use Rattle.sopl_types.proofs.Walks.{terms_more, factors_more}
use Rattle.sopl_types.proofs.names.Names.+walk.Goals as goal

-- the next part of a product
pub factors-parts-preserved : goal.factors-parts-preserved
factors-parts-preserved t c =
    ap (λ first. earlier_of first (earliest (of_factors (known_in c.args.self.now) c.args.constant (factors (drop (c.parts.part-index + 1) c.args.parts.now)))))
    (c.earlier-first.ensures ∙ ap (earlier_of c.parts.first) c.in_ok-factor.ensures)
    ∙ factors_more (known_in c.args.self.now) c.args.constant c.parts.first c.args.parts.now c.parts.part-index c.part-item.result c.parts-test.true c.part-item.is
    ∙ c.parts.invariant

-- the next part of a sum
pub terms-parts-preserved : goal.terms-parts-preserved
terms-parts-preserved t c =
    ap (λ first. earlier_of first (earliest (of_terms (known_in c.args.self.now) c.args.constant (terms (drop (c.parts.part-index + 1) c.args.parts.now)))))
    (c.earlier-first.ensures ∙ ap (earlier_of c.parts.first) c.in_ok-number.ensures)
    ∙ terms_more (known_in c.args.self.now) c.args.constant c.parts.first c.args.parts.now c.parts.part-index c.part-item.result c.parts-test.true c.part-item.is
    ∙ c.parts.invariant
