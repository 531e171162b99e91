use Rattle.std.proofs.Common.{◌≡◌, take}
use Rattle.prop_operands.specs.Kept.{AreOperands, AreSeen}
use Rattle.prop_operands.proofs.operands.Operands.look.Given as goal

abbrev pub invariant-places : goal.invariant-places
invariant-places l = record {
  operands : AreOperands l.program l.self;
  list : l.self.list ≡ l.fn.self.list;
  seen : AreSeen l.program l.store.box (take l.place l.fn.self.list.items) (take l.place l.self.known.items);
}
