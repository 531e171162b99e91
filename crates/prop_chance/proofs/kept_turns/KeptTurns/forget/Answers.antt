use Rattle.std.proofs.Common.{◌∙◌, arith}
use Rattle.prop_chance.proofs.Turned.{cells_all, cells_more, fewer_on}
use Rattle.prop_chance.proofs.kept_turns.KeptTurns.forget.Goals as goal

pub forget_cell-requires-clause-room : goal.forget_cell-requires-clause-room
forget_cell-requires-clause-room c = c.list.invariant.room ∙ c.requires.room

pub list-preserved : goal.list-preserved
list-preserved c = record {
  forgotten = cells_more c.args.cells.now c.args.list.now c.list.cell-index _ c.list.self c.forget_cell.new.self c.list-test.true c.forget_cell.ensures.fewer c.list.invariant.forgotten
      c.forget_cell.ensures.forgotten;
  fewer = fewer_on c.args.self.now c.list.self c.forget_cell.new.self c.list.invariant.fewer c.forget_cell.ensures.fewer;
  room = c.forget_cell.ensures.room ∙ c.list.invariant.room;
}

pub returns : goal.returns
returns c = record {
  forgotten = cells_all c.args.cells.now c.args.list.now c.list.cell-index c.list.self (omega (arith, c.list-test.false)) c.list.invariant.forgotten;
  fewer = c.list.invariant.fewer;
  room = c.list.invariant.room;
}
