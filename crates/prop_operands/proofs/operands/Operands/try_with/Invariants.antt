use Rattle.std.proofs.Common.{◌≡◌, take}
use Rattle.term_program.specs.Programs.{with_interval}
use Rattle.prop_operands.specs.Kept.{AreOperands, AreSeen}
use Rattle.prop_operands.proofs.operands.Operands.try_with.Given as goal

abbrev pub invariant-places : goal.invariant-places
invariant-places l = record {
  operands : AreOperands l.program l.self;
  list : l.self.list ≡ l.fn.self.list;
  known : l.self.known ≡ l.fn.self.known;
  seen : AreSeen l.program (with_interval l.store.box l.cell l.part.lo l.part.hi) (take l.place l.fn.self.list.items) (take l.place l.self.tried.items);
}
