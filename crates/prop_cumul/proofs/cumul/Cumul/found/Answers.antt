use Rattle.std.proofs.Common.{◌∙◌, sym}
use Rattle.prop_shave.proofs.Finding.{found_cut, found_dead}
use Rattle.prop_operands.proofs.Asking.{tried_quiet}
use Rattle.prop_cumul.proofs.Asking.{about}
use Rattle.prop_cumul.proofs.cumul.Cumul.found.Goals as goal

pub closes_box-requires-clause-about : goal.closes_box-requires-clause-about
closes_box-requires-clause-about c = about c.args.self.now c.args.probe.now c.requires.fits c.requires.own

pub returns-then-closes_box-clause-finds : goal.returns-then-closes_box-clause-finds
returns-then-closes_box-clause-finds c = found_dead c.args.probe.now (sym c.closes_box.ensures.closed ∙ c.if-closes_box.true)

pub returns-in-Some-clause-finds : goal.returns-in-Some-clause-finds
returns-in-Some-clause-finds c =
    found_cut c.args.probe.now c.in-Some.step (sym c.closes_box.ensures.closed ∙ c.if-closes_box.false) c.in-Some.ensures.own_reason c.in-Some.ensures.right

pub returns-in-None-clause-finds : goal.returns-in-None-clause-finds
returns-in-None-clause-finds c =
    tried_quiet c.args.probe.now c.args.self.now.instance c.args.self.now.scenario c.cells_of-cells.result.now _ c.requires.own c.hard-cond.ensures.condition
    c.cells_of-cells.ensures.cells (sym c.closes_box.ensures.closed ∙ c.if-closes_box.false) c.in-None.ensures.none
