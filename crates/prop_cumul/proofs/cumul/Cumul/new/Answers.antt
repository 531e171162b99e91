use Rattle.std.proofs.Common.{◌≡◌, ◌∙◌, ◌/◌, arith, length}
use Rattle.prop_cumul.proofs.Making.{fits}
use Rattle.prop_cumul.proofs.cumul.Cumul.new.Goals as goal

pub returns-clause-fits : goal.returns-clause-fits
returns-clause-fits c =
    fits _ c.args.program.now c.hard.result.0 c.terms-terms.result.now c.requires.made c.requires.cumulative c.hard.ensures.condition c.terms-terms.ensures.terms
    c.in_ok-operands.ensures.terms c.in_ok-operands.ensures.operands
    (λ n long. let third : length c.terms-terms.result.now / 3 ≡ n = omega (arith, long) in c.in_ok-profile.ensures ∙ third)
