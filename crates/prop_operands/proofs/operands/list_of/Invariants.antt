use Rattle.prop_operands.proofs.Keeping.{AreListed}
use Rattle.prop_operands.proofs.operands.list_of.Given as goal

abbrev pub invariant-terms : goal.invariant-terms
invariant-terms l = AreListed l.program l.terms l.term-index l.list.items
