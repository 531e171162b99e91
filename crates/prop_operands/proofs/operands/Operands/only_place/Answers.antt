use Rattle.prop_operands.proofs.Mentioning.{two_not_only}
use Rattle.prop_operands.proofs.operands.Operands.only_place.Goals as goal

pub returns-in-Some-next_place-clause-none : goal.returns-in-Some-next_place-clause-none
returns-in-Some-next_place-clause-none c =
    two_not_only c.args.program.now c.args.self.now.list.items c.args.cell c.in-Some.first c.in-Some-next_place.field-0 c.in-Some.ensures.exists c.in-Some.ensures.here
    c.in-Some-next_place.ensures.behind c.in-Some-next_place.ensures.exists c.in-Some-next_place.ensures.here
