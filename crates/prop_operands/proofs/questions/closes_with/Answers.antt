use Rattle.std.proofs.Common.{subst, sym}
use Rattle.term_crowds.specs.Crowds.{AllOrdered}
use Rattle.term_program.specs.Programs.{with_interval}
use Rattle.term_windows.specs.Windows.{spans}
use Rattle.prop_shave.proofs.Ending.{with_inside}
use Rattle.prop_operands.proofs.Asking.{ordered_seen}
use Rattle.prop_operands.proofs.questions.closes_with.Goals as goal

pub is_failed-requires-clause-ordered : goal.is_failed-requires-clause-ordered
is_failed-requires-clause-ordered g c =
    let b = c.args.probe.now.store.now.box in
    let program = c.args.probe.now.program.now in
    subst (λ es. AllOrdered (spans es)) (sym c.tried.ensures)
    (ordered_seen program (with_interval b c.args.cell c.args.part.lo c.args.part.hi) c.args.operands.now.list.items c.try_with.new.self.tried.items c.requires.asked.made
    (with_inside _ b c.args.cell c.args.part.lo c.args.part.hi c.requires.asked.inside c.requires.from_low c.args.part.ordered c.requires.to_high)
    (c.try_with.ensures.seen c.if-not-try_with.false))
