use Rattle.std.proofs.Common.{◌≡◌, List, length, rules, subst, ℕ}
use Rattle.prop_shave.specs.GoalSums.{touches_at}
use Rattle.term_program.specs.Programs.{root_in, things_in}
use Rattle.prop_chance.specs.KeptTurns.{AreForgottenIn}
use Rattle.prop_chance.proofs.Turned.{forgotten_listed, none_fewer}
use Rattle.prop_goal.proofs.goal_cells.GoalCells.forget_waiting.Goals as goal

pub returns-then-kept-gt0 : goal.returns-then-kept-gt0
returns-then-kept-gt0 c = record {
  forgotten = λ number place below there waiting touched. c.forget_all.ensures.none place;
  fewer = none_fewer c.args.turns.now c.forget_all.new.self c.forget_all.ensures.none;
  room = c.forget_all.ensures.room;
}

pub returns-clause-forgotten : goal.returns-clause-forgotten
returns-clause-forgotten c =
    let k = c.args.kept.now in
    let mentions = touches_at (root_in c.args.program.now) (things_in c.args.program.now) k.atoms.items in
    let first : k.outdated.unlisted ≡ 0 = search rules in
    forgotten_listed mentions c.args.self.now.cells.items k.outdated (length k.atoms.items) c.forget_parts.new.turns c.requires.listed c.requires.waits first
    (subst (λ (ns : List ℕ). AreForgottenIn mentions c.args.self.now.cells.items k.outdated.waits.items (length k.atoms.items) ns c.forget_parts.new.turns) c.as_slice.ensures.value
    c.forget_parts.ensures.forgotten)
