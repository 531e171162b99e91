use Rattle.std.proofs.Common.{◌∙◌, subst, sym, ℕ}
use Rattle.std.proofs.lemmas.List.{get_or_default}
use Rattle.prop_shave.specs.ChanceSums.{left_over}
use Rattle.prop_shave.specs.Opened.{IsOpen}
use Rattle.prop_shave.specs.Turns.{AreEndTurns}
use Rattle.term_program.specs.Programs.{problem_in, root_in}
use Rattle.prop_chance.proofs.chance_constraint.ChanceConstraint.step_by_turns.Goals as goal

pub is_enough_at_ends-requires-clause-turns : goal.is_enough_at_ends-requires-clause-turns
is_enough_at_ends-requires-clause-turns c =
    let q = c.args.probe.now in
    let p = c.args.self.now in
    subst (λ (n : ℕ). AreEndTurns (left_over (root_in q.program.now) (problem_in q.program.now) p.instance) q.store.now.box n c.args.turns.now)
    (sym (c.index.ensures ∙ get_or_default p.cells.items c.args.at c.index.result.now 0 c.requires.exists)) c.requires.turns

pub returns-then-is_enough_at_ends-clause-none : goal.returns-then-is_enough_at_ends-clause-none
returns-then-is_enough_at_ends-clause-none c =
    let p = c.args.self.now in
    subst (IsOpen c.args.probe.now) (c.index.ensures ∙ get_or_default p.cells.items c.args.at c.index.result.now 0 c.requires.exists)
    (c.is_enough_at_ends.ensures.stays c.if-is_enough_at_ends.true)
