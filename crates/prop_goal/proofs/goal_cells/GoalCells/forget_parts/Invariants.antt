use Rattle.std.proofs.Common.{◌≡◌, length, take}
use Rattle.prop_shave.specs.GoalSums.{touches_at}
use Rattle.term_program.specs.Programs.{root_in, things_in}
use Rattle.prop_chance.specs.KeptTurns.{AreFewer, AreForgottenIn}
use Rattle.prop_goal.proofs.goal_cells.GoalCells.forget_parts.Given as goal

abbrev pub invariant-parts : goal.invariant-parts
invariant-parts l = record {
  forgotten : AreForgottenIn (touches_at (root_in l.program) (things_in l.program) l.kept.atoms.items) l.self.cells.items l.kept.outdated.waits.items (length l.kept.atoms.items)
      (take l.number-index l.numbers) l.turns;
  fewer : AreFewer l.fn.turns l.turns;
  room : length l.turns.known.items ≡ length l.fn.turns.known.items;
}
