use Rattle.std.proofs.Common.{◌∙◌, IfSome, ap, subst, sym, ℕ}
use Rattle.std.proofs.lemmas.List.{get_or_default}
use Rattle.prop_shave.specs.ChanceKnown.{AreTruths}
use Rattle.prop_shave.specs.ChanceSums.{left_over, touched_by}
use Rattle.prop_shave.specs.Turns.{AreEndTurns}
use Rattle.term_program.specs.Programs.{problem_in, root_in}
use Rattle.prop_chance.specs.UpToDate.{numbers_in}
use Rattle.prop_chance.proofs.Conditions.{list_at}
use Rattle.prop_chance.proofs.chance_constraint.ChanceConstraint.step_with.Goals as goal

pub step_at-requires-clause-asked : goal.step_at-requires-clause-asked
step_at-requires-clause-asked c =
    let root = root_in c.args.probe.now.program.now in
    let terms = problem_in c.args.probe.now.program.now in
    let b = c.args.probe.now.store.now.box in
    let p = c.args.self.now in
    let touched = touched_by root terms p.instance in
    record {
      made = c.requires.asked.made;
      inside = c.requires.asked.inside;
      weighed = record {
        reason = c.requires.reason;
        known = record {
          exists = c.requires.constraint.exists;
          left = c.requires.known.left;
          truths = subst (AreTruths root terms p.instance b) (sym c.as_slice.ensures.value) c.requires.known.truths;
          scenarios =
              c.as_slice-2.ensures.value
              ∙ ap numbers_in c.index.ensures
              ∙ list_at numbers_in touched p.mentioning.items p.cells.items c.args.at c.index-cell.result.now c.index.result.now c.requires.constraint.touched c.requires.exists
              ∙ ap touched (sym c.index-cell.ensures);
          turns = subst (λ (n : ℕ). IfSome c.args.turns (AreEndTurns (left_over root terms p.instance) b n))
              (sym (c.index-cell.ensures ∙ get_or_default p.cells.items c.args.at c.index-cell.result.now 0 c.requires.exists)) c.requires.turns;
        };
      };
      counted = tt;
    }
