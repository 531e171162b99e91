use Rattle.std.proofs.Common.{Some, get_or, length-set, refl, subst}
use Rattle.prop_shave.specs.ChanceSums.{left_over}
use Rattle.term_program.specs.Programs.{problem_in, root_in}
use Rattle.prop_shave.specs.Opened.{IsOpen}
use Rattle.prop_shave.specs.Turns.{HoldsAtEnds}
use Rattle.prop_shave.specs.declared.end_turns.EndsTold.{EndsTold}
use Rattle.prop_chance.proofs.Turned.{known_set}
use Rattle.prop_chance.proofs.chance_constraint.ChanceConstraint.step_anew.Goals as goal

pub returns-in-Open-clause-none : goal.returns-in-Open-clause-none
returns-in-Open-clause-none c =
    let q = c.args.probe.now in
    let p = c.args.self.now in
    let cell = get_or p.cells.items c.args.at 0 in
    subst (λ (told : EndsTold). HoldsAtEnds (IsOpen q cell) (left_over (root_in q.program.now) (problem_in q.program.now) p.instance) q.store.now.box cell told) c.in-Open.is c.ends_anew.ensures

pub step_by_turns-requires-clause-turns : goal.step_by_turns-requires-clause-turns
step_by_turns-requires-clause-turns c =
    let q = c.args.probe.now in
    let p = c.args.self.now in
    let cell = get_or p.cells.items c.args.at 0 in
    subst (λ (told : EndsTold). HoldsAtEnds (IsOpen q cell) (left_over (root_in q.program.now) (problem_in q.program.now) p.instance) q.store.now.box cell told) c.in-Turned.is c.ends_anew.ensures

pub returns-in-Turned-clause-turns : goal.returns-in-Turned-clause-turns
returns-in-Turned-clause-turns c =
    let q = c.args.probe.now in
    let p = c.args.self.now in
    let cell = get_or p.cells.items c.args.at 0 in
    known_set (left_over (root_in q.program.now) (problem_in q.program.now) p.instance) q.store.now.box p.cells.items c.args.turns.now _ c.args.at (Some c.in-Turned.seen) c.requires.exists c.requires.room refl
    (subst (λ (told : EndsTold). HoldsAtEnds (IsOpen q cell) (left_over (root_in q.program.now) (problem_in q.program.now) p.instance) q.store.now.box cell told) c.in-Turned.is c.ends_anew.ensures) c.requires.turns

pub returns-in-Turned-clause-room : goal.returns-in-Turned-clause-room
returns-in-Turned-clause-room c = length-set c.args.turns.now.known.items c.args.at (Some c.in-Turned.seen)
