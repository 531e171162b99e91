use Rattle.std.proofs.Common.{◌≡◌, length, take}
use Rattle.std.specs.List.{All}
use Rattle.prop_shave.specs.ChanceSums.{left_over}
use Rattle.prop_shave.specs.Opened.{IsOpen}
use Rattle.term_program.specs.Programs.{problem_in, root_in}
use Rattle.prop_chance.specs.KeptTurns.{KnowsTurns}
use Rattle.prop_chance.proofs.chance_constraint.ChanceConstraint.step_by.Given as goal

abbrev pub invariant-cells : goal.invariant-cells
invariant-cells l = record {
  open_ : All (IsOpen l.probe) (take l.at l.self.cells.items);
  turns : KnowsTurns (left_over (root_in l.probe.program.now) (problem_in l.probe.program.now) l.self.instance) l.probe.store.now.box l.self.cells.items l.turns;
  room : length l.turns.known.items ≡ length l.fn.turns.known.items;
}
