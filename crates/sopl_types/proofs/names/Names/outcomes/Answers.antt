use Rattle.std.proofs.Common.{ap, ◌∙◌, ◌+◌, drop}
use Rattle.sopl_ast.specs.Mistakes.{of_outcomes}
use Rattle.sopl_types.specs.Earliest.{earlier_of, earliest}
use Rattle.sopl_types.specs.Known.{known_in}
use Rattle.sopl_types.proofs.DeclWalks.{outcomes_more}
use Rattle.sopl_types.proofs.names.Names.outcomes.Goals as goal

-- the next value and its weight
pub outcomes-preserved : goal.outcomes-preserved
outcomes-preserved c =
    ap (λ first. earlier_of first (earliest (of_outcomes (known_in c.args.self.now) (drop (c.outcomes.outcome-index + 1) c.args.outcomes.now))))
    (c.earlier-first.ensures ∙ ap (earlier_of c.outcomes.first) c.in_ok-outcome.ensures)
    ∙ outcomes_more (known_in c.args.self.now) c.args.outcomes.now c.outcomes.outcome-index c.outcomes.first c.outcome-item.result c.outcomes-test.true c.outcome-item.is
    ∙ c.outcomes.invariant
