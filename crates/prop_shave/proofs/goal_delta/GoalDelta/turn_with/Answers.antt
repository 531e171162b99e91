use Rattle.prop_shave.proofs.Ending.{parts_turned}
use Rattle.prop_shave.proofs.goal_delta.GoalDelta.turn_with.Goals as goal

pub returns : goal.returns
returns c =
    let k = c.args.self.now in
    parts_turned c.args.program.now c.args.store.now.box k.cell c.args.part.lo c.args.part.hi k.atoms.now k.end.value c.in_ok-end.end.value c.in_ok-turn.turn.value c.requires.known.are
    c.requires.inside
    c.requires.from_low c.args.part.ordered c.requires.to_high c.requires.known.end c.in_ok-end.ensures c.in_ok-turn.ensures.difference
