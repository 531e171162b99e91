use Rattle.std.proofs.Common.{Some, get_or, length-set, refl, subst}
use Rattle.prop_shave.specs.GoalSums.{parts_over}
use Rattle.prop_shave.specs.Opened.{IsOpen}
use Rattle.prop_shave.specs.Turns.{HoldsAtEnds}
use Rattle.prop_shave.specs.declared.end_turns.EndsTold.{EndsTold}
use Rattle.prop_chance.proofs.Turned.{known_set}
use Rattle.prop_goal.proofs.goal_cells.GoalCells.step_anew.Goals as goal

pub returns-in-Open-clause-none : goal.returns-in-Open-clause-none
returns-in-Open-clause-none c =
    let q = c.args.probe.now in
    let p = c.args.self.now in
    let cell = get_or p.cells.items c.args.at 0 in
    subst (λ (told : EndsTold). HoldsAtEnds (IsOpen q cell) (parts_over q.program.now c.args.kept.now.atoms.items) q.store.now.box cell told) c.in-Open.is c.ends_anew.ensures

pub step_by_turns-requires-clause-turns : goal.step_by_turns-requires-clause-turns
step_by_turns-requires-clause-turns c =
    let q = c.args.probe.now in
    let p = c.args.self.now in
    let cell = get_or p.cells.items c.args.at 0 in
    subst (λ (told : EndsTold). HoldsAtEnds (IsOpen q cell) (parts_over q.program.now c.args.kept.now.atoms.items) q.store.now.box cell told) c.in-Turned.is c.ends_anew.ensures

pub returns-in-Turned-clause-turns : goal.returns-in-Turned-clause-turns
returns-in-Turned-clause-turns c =
    let q = c.args.probe.now in
    let p = c.args.self.now in
    let cell = get_or p.cells.items c.args.at 0 in
    known_set (parts_over q.program.now c.args.kept.now.atoms.items) q.store.now.box p.cells.items c.args.turns.now _ c.args.at (Some c.in-Turned.seen) c.requires.exists c.requires.room refl
    (subst (λ (told : EndsTold). HoldsAtEnds (IsOpen q cell) (parts_over q.program.now c.args.kept.now.atoms.items) q.store.now.box cell told) c.in-Turned.is c.ends_anew.ensures) c.requires.turns

pub returns-in-Turned-clause-room : goal.returns-in-Turned-clause-room
returns-in-Turned-clause-room c = length-set c.args.turns.now.known.items c.args.at (Some c.in-Turned.seen)
