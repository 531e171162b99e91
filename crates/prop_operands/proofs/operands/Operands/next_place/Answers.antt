use Rattle.std.proofs.Common.{◌≡◌, arith, get_or, rules, true}
use Rattle.prop_shave.specs.Sums.{has_cell}
use Rattle.prop_operands.proofs.Mentioning.{found_there, none_left}
use Rattle.prop_operands.proofs.operands.Operands.next_place.Goals as goal

pub returns-then-has-clause-here : goal.returns-then-has-clause-here
returns-then-has-clause-here c =
    let at : c.index.result.now ≡ get_or c.args.self.now.list.items c.places.place c.index.result.now = search rules in
    let there : has_cell c.args.cell c.index.result.now.cells.items ≡ true = search rules in
    found_there c.args.program.now c.args.self.now.list.items c.args.cell c.places.place c.index.result.now c.requires.operands.each
    (omega (arith, c.places-test.true, c.len-place-end.ensures)) at there

pub returns-clause-none : goal.returns-clause-none
returns-clause-none c =
    none_left c.args.program.now c.args.self.now.list.items c.args.cell c.args.from c.places.place
    (omega (arith, c.places-test.false, c.len-place-end.ensures)) c.places.invariant
