use Rattle.std.proofs.Common.{◌∙◌, List, get_or, subst, sym, ℕ}
use Rattle.std.proofs.lemmas.List.{get_or_default}
use Rattle.term_goals.specs.declared.sums.Atom.{Atom}
use Rattle.prop_shave.specs.GoalSums.{AreParts, parts_over}
use Rattle.prop_shave.specs.Opened.{IsOpen}
use Rattle.prop_shave.specs.Turns.{AreEndTurns}
use Rattle.prop_goal.proofs.goal_cells.GoalCells.is_open_by_turns.Goals as goal

pub is_better_at_ends-requires-clause-are : goal.is_better_at_ends-requires-clause-are
is_better_at_ends-requires-clause-are c = subst (AreParts c.args.probe.now.program.now) (sym c.as_slice.ensures.value) c.requires.known.are

pub is_better_at_ends-requires-clause-turns : goal.is_better_at_ends-requires-clause-turns
is_better_at_ends-requires-clause-turns c =
    let q = c.args.probe.now in
    let p = c.args.self.now in
    let place = c.index.ensures ∙ get_or_default p.cells.items c.args.at c.index.result.now 0 c.requires.exists in
    subst (λ (n : ℕ). AreEndTurns (parts_over q.program.now c.as_slice.result.now) q.store.now.box n c.args.turns.now) (sym place)
    (subst (λ (xs : List Atom). AreEndTurns (parts_over q.program.now xs) q.store.now.box (get_or p.cells.items c.args.at 0) c.args.turns.now) (sym c.as_slice.ensures.value) c.requires.turns)

pub returns-in-Some : goal.returns-in-Some
returns-in-Some c = record {
  stays = λ is.
      let p = c.args.self.now in
      subst (IsOpen c.args.probe.now) (c.index.ensures ∙ get_or_default p.cells.items c.args.at c.index.result.now 0 c.requires.exists) (c.is_better_at_ends.ensures.stays is);
}
