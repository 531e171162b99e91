use Rattle.prop_alldiff.proofs.Making.{fits}
use Rattle.prop_alldiff.proofs.all_diff.AllDiff.new.Goals as goal

pub returns-clause-fits : goal.returns-clause-fits
returns-clause-fits c =
    fits _ c.args.program.now c.hard-cond.result.0 c.terms.result.now c.cells_of.result.now c.requires.made c.requires.different c.hard-cond.ensures.condition c.terms.ensures.terms
    c.in_ok-operands.ensures.terms c.in_ok-operands.ensures.operands c.cells_of.ensures.cells c.in_ok-shared.ensures
