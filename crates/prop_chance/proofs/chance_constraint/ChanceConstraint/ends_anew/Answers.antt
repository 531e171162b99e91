use Rattle.std.proofs.Common.{◌∙◌, ap, subst, sym, ℕ}
use Rattle.std.proofs.lemmas.List.{get_or_default}
use Rattle.prop_shave.specs.ChanceKnown.{AreTruths}
use Rattle.prop_shave.specs.ChanceSums.{left_over, touched_by}
use Rattle.prop_shave.specs.Opened.{IsOpen}
use Rattle.prop_shave.specs.Turns.{HoldsAtEnds}
use Rattle.term_program.specs.Programs.{problem_in, root_in}
use Rattle.prop_chance.specs.UpToDate.{numbers_in}
use Rattle.prop_chance.proofs.Conditions.{list_at}
use Rattle.prop_chance.proofs.chance_constraint.ChanceConstraint.ends_anew.Goals as goal

pub weight_ends-requires-clause-known : goal.weight_ends-requires-clause-known
weight_ends-requires-clause-known c =
    let root = root_in c.args.probe.now.program.now in
    let terms = problem_in c.args.probe.now.program.now in
    let p = c.args.self.now in
    let touched = touched_by root terms p.instance in
    record {
      reason = c.requires.reason;
      known = record {
        exists = c.requires.constraint.exists;
        left = c.requires.known.left;
        truths = subst (AreTruths root terms p.instance c.args.probe.now.store.now.box) (sym c.as_slice.ensures.value) c.requires.known.truths;
        scenarios =
            c.as_slice-2.ensures.value
            ∙ ap numbers_in c.index.ensures
            ∙ list_at numbers_in touched p.mentioning.items p.cells.items c.args.at c.index-cell.result.now c.index.result.now c.requires.constraint.touched c.requires.exists
            ∙ ap touched (sym c.index-cell.ensures);
        turns = tt;
      };
    }

pub returns : goal.returns
returns c =
    let q = c.args.probe.now in
    let p = c.args.self.now in
    subst (λ (n : ℕ). HoldsAtEnds (IsOpen q n) (left_over (root_in q.program.now) (problem_in q.program.now) p.instance) q.store.now.box n c.weight_ends.result)
    (c.index-cell.ensures ∙ get_or_default p.cells.items c.args.at c.index-cell.result.now 0 c.requires.exists) c.weight_ends.ensures
