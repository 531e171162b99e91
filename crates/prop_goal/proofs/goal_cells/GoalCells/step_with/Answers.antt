use Rattle.std.proofs.Common.{◌∙◌, IfSome, List, ap, subst, sym, ℕ}
use Rattle.std.proofs.lemmas.List.{get_or_default}
use Rattle.term_goals.specs.declared.sums.Atom.{Atom}
use Rattle.prop_shave.specs.GoalKnown.{AreEnds}
use Rattle.prop_shave.specs.GoalSums.{AreParts, parts_over, touched_by}
use Rattle.prop_shave.specs.Turns.{AreEndTurns}
use Rattle.term_program.specs.Programs.{root_in, things_in}
use Rattle.prop_chance.specs.UpToDate.{part_numbers}
use Rattle.prop_chance.proofs.Conditions.{list_at}
use Rattle.prop_goal.proofs.goal_cells.GoalCells.step_with.Goals as goal

pub step_at-requires-clause-asked : goal.step_at-requires-clause-asked
step_at-requires-clause-asked c =
    let program = c.args.probe.now.program.now in
    let b = c.args.probe.now.store.now.box in
    let p = c.args.self.now in
    let k = c.args.kept.now in
    let touched = touched_by (root_in program) (things_in program) k.atoms.items in
    let same = sym c.as_slice.ensures.value in
    let place = c.index-cell.ensures ∙ get_or_default p.cells.items c.args.at c.index-cell.result.now 0 c.requires.exists in
    record {
      made = c.requires.asked.made;
      inside = c.requires.asked.inside;
      weighed = tt;
      counted = record {
        reason = c.requires.reason;
        known = record {
          are = subst (AreParts program) same c.requires.known.are;
          ends = subst (λ xs. AreEnds program b xs c.as_slice-2.result.now) same (subst (AreEnds program b k.atoms.items) (sym c.as_slice-2.ensures.value) c.requires.known.ends);
          end = c.requires.known.end;
          numbers =
              c.as_slice-3.ensures.value
              ∙ ap part_numbers c.index.ensures
              ∙ list_at part_numbers touched p.touched.items p.cells.items c.args.at c.index-cell.result.now c.index.result.now c.requires.cells.touched c.requires.exists
              ∙ ap touched (sym c.index-cell.ensures)
              ∙ ap (λ xs. touched_by (root_in program) (things_in program) xs c.index-cell.result.now) same;
          turns = subst (λ (xs : List Atom). IfSome c.args.turns (AreEndTurns (parts_over program xs) b c.index-cell.result.now)) same
              (subst (λ (n : ℕ). IfSome c.args.turns (AreEndTurns (parts_over program k.atoms.items) b n)) (sym place) c.requires.turns);
        };
      };
    }
