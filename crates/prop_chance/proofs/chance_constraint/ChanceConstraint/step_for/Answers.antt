use Rattle.std.proofs.Common.{◌∙◌, IfSome, get_or, subst}
use Rattle.std.proofs.lemmas.List.{get_or_default}
use Rattle.prop_shave.specs.ChanceSums.{left_over}
use Rattle.prop_shave.specs.Opened.{IsOpen}
use Rattle.prop_shave.specs.Turns.{AreEndTurns}
use Rattle.prop_shave.proofs.Opening.{fixed_open}
use Rattle.term_program.specs.Programs.{problem_in, root_in}
use Rattle.prop_chance.proofs.Turned.{known_at}
use Rattle.prop_chance.proofs.chance_constraint.ChanceConstraint.step_for.Goals as goal

pub returns-then-is_fixed-clause-none : goal.returns-then-is_fixed-clause-none
returns-then-is_fixed-clause-none c =
    subst (IsOpen c.args.probe.now) (c.index.ensures ∙ get_or_default c.args.self.now.cells.items c.args.at c.index.result.now 0 c.requires.exists)
    (fixed_open c.args.probe.now c.index.result.now c.requires.whole (c.is_fixed.ensures c.if-is_fixed.true))

pub step_by_turns-requires-clause-turns : goal.step_by_turns-requires-clause-turns
step_by_turns-requires-clause-turns c =
    let q = c.args.probe.now in
    let p = c.args.self.now in
    subst (λ o. IfSome o (AreEndTurns (left_over (root_in q.program.now) (problem_in q.program.now) p.instance) q.store.now.box (get_or p.cells.items c.args.at 0))) c.in-Some.is
    (known_at (left_over (root_in q.program.now) (problem_in q.program.now) p.instance) q.store.now.box p.cells.items c.args.turns.now c.args.at c.index-2.result.now c.requires.exists
    c.requires.room c.index-2.ensures c.requires.turns)
