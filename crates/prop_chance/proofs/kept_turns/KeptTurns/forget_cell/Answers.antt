use Rattle.std.proofs.Common.{None, get_or, length-set, refl}
use Rattle.std.specs.FinMap.{nat_cmp-IsAntisymmetric}
use Rattle.prop_chance.proofs.Turned.{cell_fewer, cell_forgotten, none_fewer}
use Rattle.prop_chance.proofs.kept_turns.KeptTurns.forget_cell.Goals as goal

pub returns-in-Ok : goal.returns-in-Ok
returns-in-Ok c = record {
  forgotten = cell_forgotten c.args.cells.now c.args.self.now.known.items _ c.in-Ok.place c.args.cell c.args.cell c.requires.ascend c.in-Ok.ensures.bound
      (nat_cmp-IsAntisymmetric (get_or c.args.cells.now c.in-Ok.place c.args.cell) c.args.cell (c.in-Ok.ensures.ok c.args.cell)) refl;
  fewer = cell_fewer c.args.self.now _ c.in-Ok.place refl;
  room = length-set c.args.self.now.known.items c.in-Ok.place None;
}

pub returns-in-Err : goal.returns-in-Err
returns-in-Err c = record {
  forgotten = λ place below is. c.forget_all.ensures.none place;
  fewer = none_fewer c.args.self.now c.forget_all.new.self c.forget_all.ensures.none;
  room = c.forget_all.ensures.room;
}
