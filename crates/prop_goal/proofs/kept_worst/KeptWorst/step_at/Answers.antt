use Rattle.std.proofs.Common.{◌≡◌, ◌∙◌, ap, rules, subst, sym, true}
use Rattle.std.proofs.lemmas.List.{get_or_default}
use Rattle.prop_shave.proofs.Opening.{fixed_open}
use Rattle.prop_shave.specs.GoalSums.{touched_by}
use Rattle.prop_shave.specs.Opened.{IsOpen}
use Rattle.term_program.specs.Programs.{root_in, things_in}
use Rattle.prop_chance.specs.UpToDate.{part_numbers}
use Rattle.prop_chance.proofs.Conditions.{list_at}
use Rattle.prop_goal.proofs.kept_worst.KeptWorst.step_at.Goals as goal

pub stays_open-requires-clause-numbers : goal.stays_open-requires-clause-numbers
stays_open-requires-clause-numbers c =
    let program = c.args.probe.now.program.now in
    let g = c.args.watched.now in
    let touched = touched_by (root_in program) (things_in program) c.args.self.now.parts.atoms.items in
    c.as_slice-numbers.ensures.value
    ∙ ap part_numbers c.index.ensures
    ∙ list_at part_numbers touched g.touched.items g.cells.items c.args.at c.index-cell.result.now c.index.result.now c.requires.watched.touched c.requires.exists
    ∙ ap touched (sym c.index-cell.ensures)
    ∙ ap touched (sym c.in-Some.ensures.cell)

pub returns-in_default-clause-none : goal.returns-in_default-clause-none
returns-in_default-clause-none c =
    let g = c.args.watched.now in
    let place = c.index-cell.ensures ∙ get_or_default g.cells.items c.args.at c.index-cell.result.now 0 c.requires.exists in
    subst (IsOpen c.args.probe.now) place (fixed_open c.args.probe.now c.index-cell.result.now c.requires.whole c.in_default.ensures.none)

pub returns-then-stays_open-clause-none : goal.returns-then-stays_open-clause-none
returns-then-stays_open-clause-none c =
    let g = c.args.watched.now in
    let place = c.index-cell.ensures ∙ get_or_default g.cells.items c.args.at c.index-cell.result.now 0 c.requires.exists in
    let met : c.stays_open.result ≡ true = search rules in
    subst (IsOpen c.args.probe.now) (c.in-Some.ensures.cell ∙ place) (c.stays_open.ensures.stays met)
