use Rattle.prop_set.specs.Kinds.{Fits, IsInStep, reasons_of}
use Rattle.term_program.specs.Stated.{box_problem_of}
use Rattle.search_tests.specs.declared.prop_core_asking.CountingProp.{CountingProp}
use Rattle.search_tests.proofs.Counting.{backward, reasons_wrapped}
use Rattle.std.proofs.Common.{reverse}
use Rattle.search_tests.proofs.prop_core_asking.backward.Goals as goal

pub returns-clause-fit : goal.returns-clause-fit
returns-clause-fit c =
    backward (λ p. Fits p c.args.program.now) (λ (counting : CountingProp). counting.prop) c.in_ok-list.list.items c.in_ok-props.props.items c.in_ok-list.ensures c.in_ok-props.ensures.fit

pub returns-clause-in_step : goal.returns-clause-in_step
returns-clause-in_step c = λ b.
    backward (λ p. IsInStep p c.args.program.now b) (λ (counting : CountingProp). counting.prop) c.in_ok-list.list.items c.in_ok-props.props.items c.in_ok-list.ensures (c.in_ok-props.ensures.in_step b)

pub returns-clause-reasons : goal.returns-clause-reasons
returns-clause-reasons c =
    reasons_wrapped reasons_of (λ (counting : CountingProp). counting.prop) (reverse c.in_ok-list.list.items) c.in_ok-props.props.items (box_problem_of c.args.program.now).reasons c.in_ok-list.ensures
    c.in_ok-props.ensures.reasons
