use Rattle.std.proofs.Common.{◌∙◌, pos, ◌≤ℤ◌, ap, subst, sym}
use Rattle.sopl_ast.specs.Scenarios.{total_of}
use Rattle.scen_laws.proofs.Weights.{total_positive}
use Rattle.sopl_scen.proofs.limits.weight_of.Goals as goal

pub returns-clause-least : goal.returns-clause-least
returns-clause-least c =
    subst (λ z. pos 1 ≤ℤ z) (sym (c.total_of_outcomes.ensures ∙ ap total_of c.distribution.ensures.items))
    (total_positive c.args.stoch.now c.requires.has_outcomes c.requires.bounded)
