use Rattle.std.proofs.Common.{subst, sym}
use Rattle.term_crowds.specs.Crowds.{AllOrdered}
use Rattle.term_windows.specs.Windows.{spans}
use Rattle.prop_operands.proofs.Asking.{ordered_seen}
use Rattle.prop_operands.proofs.questions.closes_box.Goals as goal

pub is_failed-requires-clause-ordered : goal.is_failed-requires-clause-ordered
is_failed-requires-clause-ordered g c =
    subst (λ es. AllOrdered (spans es)) (sym c.known.ensures)
    (ordered_seen c.args.probe.now.program.now c.args.probe.now.store.now.box c.args.operands.now.list.items c.look.new.self.known.items c.requires.asked.made c.requires.asked.inside
    (c.look.ensures.seen c.if-not-look.false))
