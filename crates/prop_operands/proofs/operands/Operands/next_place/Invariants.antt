use Rattle.prop_operands.specs.Kept.{NoneMentions}
use Rattle.prop_operands.proofs.operands.Operands.next_place.Given as goal

abbrev pub invariant-places : goal.invariant-places
invariant-places l = NoneMentions l.program l.self.list.items l.cell l.from l.place
