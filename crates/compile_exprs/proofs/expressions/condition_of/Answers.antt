use Rattle.unfold_constants.specs.Here.{known_in}
use Rattle.std.proofs.Common.{None}
use Rattle.compile_counts.proofs.Walking.{expressions_are_walked}
use Rattle.compile_exprs.proofs.Steps.{extends_so, measured_so, stands_so}
use Rattle.compile_exprs.proofs.expressions.condition_of.Goals as goal

pub condition-requires-clause-walked : goal.condition-requires-clause-walked
condition-requires-clause-walked c = expressions_are_walked c.args.e.now None (known_in c.args.known.now) c.requires.passes

pub returns-clause-extends : goal.returns-clause-extends
returns-clause-extends c = extends_so _ _ _ c.condition.result c.condition.ensures.made (λ id made. made.extends)

pub returns-clause-stands : goal.returns-clause-stands
returns-clause-stands c = stands_so _ _ _ c.condition.result c.condition.ensures.made (λ id made. made.stands)

pub returns-clause-measured : goal.returns-clause-measured
returns-clause-measured c = measured_so _ _ _ c.condition.result c.condition.ensures.made (λ id made. made.small)
