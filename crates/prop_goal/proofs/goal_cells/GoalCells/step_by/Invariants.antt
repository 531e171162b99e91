use Rattle.std.proofs.Common.{◌≡◌, length, take}
use Rattle.std.specs.List.{All}
use Rattle.prop_shave.specs.GoalSums.{parts_over}
use Rattle.prop_shave.specs.Opened.{IsOpen}
use Rattle.prop_chance.specs.KeptTurns.{KnowsTurns}
use Rattle.prop_goal.proofs.goal_cells.GoalCells.step_by.Given as goal

abbrev pub invariant-cells : goal.invariant-cells
invariant-cells l = record {
  open_ : All (IsOpen l.probe) (take l.at l.self.cells.items);
  turns : KnowsTurns (parts_over l.probe.program.now l.kept.atoms.items) l.probe.store.now.box l.self.cells.items l.turns;
  room : length l.turns.known.items ≡ length l.fn.turns.known.items;
}
