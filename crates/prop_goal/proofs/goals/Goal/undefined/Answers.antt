use Rattle.std.proofs.Common.{◌<◌, ◌≤◌, ◌∙◌, arith, length, rules, sym}
use Rattle.sopl_base.specs.declared.reason.Reason.TheVariants.{Bound, Undefined}
use Rattle.term_program.specs.Stated.{box_problem_of}
use Rattle.prop_goal.specs.Goals.{IsOpenTo, reasons_of}
use Rattle.prop_goal.proofs.Defined.{defined_open}
use Rattle.prop_goal.proofs.Objectives.{all_tried, closed_by, every, has_scenario, more_tried, one_of, open_to}
use Rattle.prop_goal.proofs.goals.Goal.undefined.Goals as goal

pub returns-then-refuted-clause-closes : goal.returns-then-refuted-clause-closes
returns-then-refuted-clause-closes c =
    let exists : c.scenarios.at < length c.args.self.now.partial.items = search rules in
    let scenario = c.index-scenario.result.now in
    closed_by c.args.program.now c.args.best c.args.store.now.box (reasons_of c.args.self.now) (Undefined scenario)
    (has_scenario Undefined c.args.self.now.scenarios scenario Bound
    (c.requires.fits.partial.below scenario (one_of c.args.self.now.partial.items c.scenarios.at scenario exists c.index-scenario.ensures)))
    (sym c.refuted.ensures ∙ c.if-refuted.true)

pub scenarios-preserved : goal.scenarios-preserved
scenarios-preserved c =
    let exists : c.scenarios.at < length c.args.self.now.partial.items = search rules in
    let scenario = c.index-scenario.result.now in
    more_tried (λ k. IsOpenTo (box_problem_of c.args.program.now) c.args.best c.args.store.now.box (Undefined k)) c.args.self.now.partial.items c.scenarios.at scenario c.scenarios.invariant exists
    c.index-scenario.ensures
    (open_to c.args.program.now c.args.best c.args.store.now.box (Undefined scenario) (sym c.refuted.ensures ∙ c.if-refuted.false))

pub returns-clause-none : goal.returns-clause-none
returns-clause-none c =
    let past : length c.args.self.now.partial.items ≤ c.scenarios.at = omega (arith, c.scenarios-test.false) in
    every (IsOpenTo (box_problem_of c.args.program.now) c.args.best c.args.store.now.box) Undefined c.args.self.now.scenarios c.args.self.now.partial.items
    (all_tried (λ k. IsOpenTo (box_problem_of c.args.program.now) c.args.best c.args.store.now.box (Undefined k)) c.args.self.now.partial.items c.scenarios.at past c.scenarios.invariant)
    (λ k below nowhere.
    open_to c.args.program.now c.args.best c.args.store.now.box (Undefined k)
    (defined_open c.args.program.now c.args.store.now.box k c.args.best c.requires.fits.made c.requires.inside (c.requires.fits.partial.others k below nowhere)))
