use Rattle.std.proofs.Common.{◌∙◌, arith, length}
use Rattle.prop_shave.specs.GoalSums.{touches_at}
use Rattle.term_program.specs.Programs.{root_in, things_in}
use Rattle.prop_chance.proofs.Turned.{fewer_on, forgotten_all, forgotten_on}
use Rattle.prop_goal.proofs.goal_cells.GoalCells.forget_parts.Goals as goal

pub forget_part-requires-clause-room : goal.forget_part-requires-clause-room
forget_part-requires-clause-room c = c.parts.invariant.room ∙ c.requires.room

pub parts-preserved : goal.parts-preserved
parts-preserved c = record {
  forgotten = forgotten_on (touches_at (root_in c.args.program.now) (things_in c.args.program.now) c.args.kept.now.atoms.items) c.args.self.now.cells.items c.args.kept.now.outdated.waits.items
      (length c.args.kept.now.atoms.items) c.args.numbers.now c.parts.number-index _ c.parts.turns c.forget_part.new.turns c.parts-test.true c.forget_part.ensures.fewer
      c.parts.invariant.forgotten c.forget_part.ensures.forgotten;
  fewer = fewer_on c.args.turns.now c.parts.turns c.forget_part.new.turns c.parts.invariant.fewer c.forget_part.ensures.fewer;
  room = c.forget_part.ensures.room ∙ c.parts.invariant.room;
}

pub returns : goal.returns
returns c = record {
  forgotten = forgotten_all (touches_at (root_in c.args.program.now) (things_in c.args.program.now) c.args.kept.now.atoms.items) c.args.self.now.cells.items c.args.kept.now.outdated.waits.items
      (length c.args.kept.now.atoms.items) c.args.numbers.now c.parts.number-index c.parts.turns (omega (arith, c.parts-test.false)) c.parts.invariant.forgotten;
  fewer = c.parts.invariant.fewer;
  room = c.parts.invariant.room;
}
