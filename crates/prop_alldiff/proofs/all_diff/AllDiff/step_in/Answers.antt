use Rattle.prop_operands.proofs.Asking.{tried_quiet}
use Rattle.prop_alldiff.proofs.Resting.{none_leads}
use Rattle.prop_alldiff.proofs.all_diff.AllDiff.step_in.Goals as goal

pub returns-clause-none : goal.returns-clause-none
returns-clause-none c =
    none_leads c.step_among.result
    (λ opened. tried_quiet c.args.probe.now c.args.self.now.instance c.args.self.now.scenario c.cells_of-cells.result.now _ c.requires.own c.hard-cond.ensures.condition
    c.cells_of-cells.ensures.cells c.requires.whole opened) c.step_among.ensures.none
